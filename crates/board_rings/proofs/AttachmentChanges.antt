-- One attachment changed: what callers know of it then, and of the others.
use Rattle.std.proofs.Common.{◌≡◌, ℕ, List, [], ◌∷◌, Bool, true, false, cond, Option, Some, None, IfSome, IsNone, refl, sym, ap, ◌∙◌}
use Rattle.std.specs.List.{find}
use Rattle.std.specs.Option.{option_map}
use Rattle.rows.specs.Rows.{change_first}
use Rattle.gateway_state.specs.Connections.{same_dest}
use Rattle.gateway_state.specs.declared.event.Dest.{Dest}
use Rattle.fanout.specs.declared.outbox.Out.{Out}
use Rattle.board_rings.specs.declared.inbound.Inbound.{Inbound}
use Rattle.board_rings.specs.Rings.{AttachmentState, Ring}
use Rattle.board_rings.specs.Attachments.{is_attachment_of, attachment_of, rings_of, with_free, with_look_in, with_pushed, with_received}

-- where a connection's attachment is after one attachment was changed, but for whose it is
pub attachment_of_changed : (dest : Dest) (f : AttachmentState → AttachmentState) → ((attachment : AttachmentState) → (f attachment).dest ≡ attachment.dest) → (attachments : List AttachmentState) → attachment_of dest (change_first (is_attachment_of dest) f attachments) ≡ option_map f (attachment_of dest attachments)
attachment_of_changed dest f same [] = refl
attachment_of_changed dest f same (attachment ∷ attachments) =
    elim (same_dest attachment.dest dest) as (λ t. same_dest attachment.dest dest ≡ t → find (is_attachment_of dest) (cond t (f attachment ∷ attachments) (attachment ∷ change_first (is_attachment_of dest) f attachments)) ≡ option_map f (cond t (Some attachment) (find (is_attachment_of dest) attachments))) [
      | true ↦ λ is. rw (ap (λ e. same_dest e dest) (same attachment) ∙ is) refl
      | false ↦ λ is. rw is (attachment_of_changed dest f same attachments)
    ] refl

option_at : {A B : Type 0} (f : A → B) (o : Option A) (y : B) → option_map f o ≡ Some y → (x : A) × (f x ≡ y)
option_at f None y at = cc
option_at f (Some x) y at = (x, cc)

-- the places that `room` found free
pub free_as_found : (dest : Dest) (n : ℕ) (attachments : List AttachmentState) (attachment : AttachmentState) → attachment_of dest (change_first (is_attachment_of dest) (with_free n) attachments) ≡ Some attachment → attachment.free ≡ n
free_as_found dest n attachments attachment at =
    let was = option_at (with_free n) (attachment_of dest attachments) attachment (sym (attachment_of_changed dest (with_free n) (λ l. refl) attachments) ∙ at) in
    ap (λ (l : AttachmentState). l.free) (sym was.1)

-- a change of one attachment that leaves the rings leaves those of all
module _ (dest other : Dest) (f : AttachmentState → AttachmentState) (same : (attachment : AttachmentState) → (f attachment).dest ≡ attachment.dest) where
  abbrev rings : AttachmentState → Ring × Ring
  rings attachment = (attachment.ends.in_ring, attachment.ends.out_ring)

  pub rings_changed : ((attachment : AttachmentState) → rings (f attachment) ≡ rings attachment) → (attachments : List AttachmentState) → rings_of other (change_first (is_attachment_of dest) f attachments) ≡ rings_of other attachments
  rings_changed kept [] = refl
  rings_changed kept (attachment ∷ attachments) =
      elim (same_dest attachment.dest dest) as (λ t. option_map rings (find (is_attachment_of other) (cond t (f attachment ∷ attachments) (attachment ∷ change_first (is_attachment_of dest) f attachments))) ≡ option_map rings (find (is_attachment_of other) (attachment ∷ attachments))) [
        | true ↦ rw (ap (λ e. same_dest e other) (same attachment)) (first_kept (same_dest attachment.dest other) (f attachment) attachment (find (is_attachment_of other) attachments) (kept attachment))
        | false ↦ rest_kept (same_dest attachment.dest other) attachment (find (is_attachment_of other) (change_first (is_attachment_of dest) f attachments)) (find (is_attachment_of other) attachments) (rings_changed kept attachments)
      ]
    where
      first_kept : (t : Bool) (a b : AttachmentState) (o : Option AttachmentState) → rings a ≡ rings b → option_map rings (cond t (Some a) o) ≡ option_map rings (cond t (Some b) o)
      first_kept true a b o same = ap Some same
      first_kept false a b o same = refl

      rest_kept : (t : Bool) (a : AttachmentState) (o p : Option AttachmentState) → option_map rings o ≡ option_map rings p → option_map rings (cond t (Some a) o) ≡ option_map rings (cond t (Some a) p)
      rest_kept true a o p same = refl
      rest_kept false a o p same = same

pub rings_with_free : (dest other : Dest) (n : ℕ) (attachments : List AttachmentState) → rings_of other (change_first (is_attachment_of dest) (with_free n) attachments) ≡ rings_of other attachments
rings_with_free dest other n = rings_changed dest other (with_free n) (λ _. refl) (λ _. refl)

pub rings_with_pushed : (dest other : Dest) (outs : List Out) (attachments : List AttachmentState) → rings_of other (change_first (is_attachment_of dest) (with_pushed outs) attachments) ≡ rings_of other attachments
rings_with_pushed dest other outs = rings_changed dest other (with_pushed outs) (λ _. refl) (λ _. refl)

-- by the clauses of `receive`
pub rings_with_received : (dest other : Dest) (old new : List AttachmentState) (r : Option (Inbound × ℕ)) → IfSome r (λ r. new ≡ change_first (is_attachment_of dest) (with_received r.0 r.1) old) → (IsNone r → new ≡ change_first (is_attachment_of dest) with_look_in old) → rings_of other new ≡ rings_of other old
rings_with_received dest other old new (Some (item, seen)) some none = ap (rings_of other) some ∙ rings_changed dest other (with_received item seen) (λ _. refl) (λ _. refl) old
rings_with_received dest other old new None some none = ap (rings_of other) (none refl) ∙ rings_changed dest other with_look_in (λ _. refl) (λ _. refl) old

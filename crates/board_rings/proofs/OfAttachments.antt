-- The attachments of attached connections after a change, and after one was taken off.
use Rattle.std.proofs.Common.{◌≡◌, List, [], ◌∷◌, Bool, true, false, cond, not, ◌||◌, Option, Some, None, is_some, refl, sym, ap, subst, ◌∙◌}
use Rattle.std.proofs.lemmas.Bool.{eq-eqb, eqb-true, true≢false}
use Rattle.std.specs.List.{filter}
use Rattle.std.specs.Option.{option_map, ForSome}
use Rattle.rows.specs.Rows.{change_first}
use Rattle.gateway_state.specs.Connections.{same_dest}
use Rattle.gateway_state.specs.declared.event.Dest.{Dest}
use Rattle.gateway_state.specs.declared.event.Dest.TheVariants.{Session, Upstream}
use Rattle.board_rings.proofs.AttachmentChanges.{attachment_of_changed}
use Rattle.board_rings.specs.Attachments.{is_attached, is_attachment_of, is_not_attachment_of, attachment_of}
use Rattle.board_rings.specs.Rings.{AttachmentState}

-- CONNECTIONS

-- connections that are found to be the same are
pub same_dest_is : (a b : Dest) → same_dest a b ≡ true → a ≡ b
same_dest_is (Session a) (Session b) e = ap Session (eqb-true a b e)
same_dest_is (Upstream a) (Upstream b) e = ap Upstream (eqb-true a b e)
same_dest_is (Session a) (Upstream b) e = absurd (true≢false (sym e))
same_dest_is (Upstream a) (Session b) e = absurd (true≢false (sym e))

pub same_dest_self : (a : Dest) → same_dest a a ≡ true
same_dest_self (Session a) = eq-eqb a a refl
same_dest_self (Upstream a) = eq-eqb a a refl

-- an attachment of one connection is not that of another
another_attachment : (at dest : Dest) (attachment : AttachmentState) → same_dest at dest ≡ false → is_attachment_of at attachment ≡ true → is_attachment_of dest attachment ≡ false
another_attachment at dest attachment other here = ap (λ (d : Dest). same_dest d dest) (same_dest_is attachment.dest at here) ∙ other

-- LOOK-UPS

-- a connection is attached where it has an attachment
pub attached_where_found : (dest : Dest) (attachments : List AttachmentState) → is_some (attachment_of dest attachments) ≡ is_attached dest attachments
attached_where_found dest [] = refl
attached_where_found dest (attachment ∷ attachments) =
    elim (is_attachment_of dest attachment) as (λ t. is_some (cond t (Some attachment) (attachment_of dest attachments)) ≡ (t || is_attached dest attachments))
    [ true ↦ refl | false ↦ attached_where_found dest attachments ]

-- What a change of one attachment leaves to be found, where the attachment stays that of its connection.
module _ (f : AttachmentState → AttachmentState) (keeps : (attachment : AttachmentState) → (f attachment).dest ≡ attachment.dest) where
  other_changed : (at dest : Dest) (attachments : List AttachmentState) → same_dest at dest ≡ false → attachment_of dest (change_first (is_attachment_of at) f attachments) ≡ attachment_of dest attachments
  other_changed at dest [] other = refl
  other_changed at dest (attachment ∷ attachments) other = by (other_changed at dest attachments other) (is_attachment_of at attachment) refl
    where
      by : attachment_of dest (change_first (is_attachment_of at) f attachments) ≡ attachment_of dest attachments
          → (is : Bool) → is_attachment_of at attachment ≡ is → attachment_of dest (cond is (f attachment ∷ attachments) (attachment ∷ change_first (is_attachment_of at) f attachments)) ≡ attachment_of dest (attachment ∷ attachments)
      by rest true here =
          ap (λ (b : Bool). cond b (Some (f attachment)) (attachment_of dest attachments)) (ap (λ (d : Dest). same_dest d dest) (keeps attachment) ∙ another_attachment at dest attachment other here)
          ∙ sym (ap (λ (b : Bool). cond b (Some attachment) (attachment_of dest attachments)) (another_attachment at dest attachment other here))
      by rest false here = ap (λ (found : Option AttachmentState). cond (is_attachment_of dest attachment) (Some attachment) found) rest

  -- the same connections are attached
  pub attached_after_change : (at dest : Dest) (attachments : List AttachmentState) → is_some (attachment_of dest (change_first (is_attachment_of at) f attachments)) ≡ is_some (attachment_of dest attachments)
  attached_after_change at dest attachments = by (same_dest at dest) refl
    where
      mapped : (found : Option AttachmentState) → is_some (option_map f found) ≡ is_some found
      mapped None = refl
      mapped (Some attachment) = refl

      by : (same : Bool) → same_dest at dest ≡ same → is_some (attachment_of dest (change_first (is_attachment_of at) f attachments)) ≡ is_some (attachment_of dest attachments)
      by true same =
          ap (λ (d : Dest). is_some (attachment_of dest (change_first (is_attachment_of d) f attachments))) (same_dest_is at dest same)
          ∙ ap is_some (attachment_of_changed dest f keeps attachments) ∙ mapped (attachment_of dest attachments)
      by false other = ap is_some (other_changed at dest attachments other)

  -- what holds of a connection's attachment, once what held of it holds of it changed, or unchanged where it is another's
  pub attachment_after_change : (P Q : AttachmentState → Type 0) (at dest : Dest) (attachments : List AttachmentState) → ForSome (attachment_of dest attachments) P
      → (same_dest at dest ≡ true → (attachment : AttachmentState) → P attachment → Q (f attachment))
      → (same_dest at dest ≡ false → (attachment : AttachmentState) → P attachment → Q attachment)
      → ForSome (attachment_of dest (change_first (is_attachment_of at) f attachments)) Q
  attachment_after_change P Q at dest attachments before own other = by (same_dest at dest) refl
    where
      mapped : (found : Option AttachmentState) → attachment_of dest attachments ≡ found → same_dest at dest ≡ true → ForSome (option_map f found) Q
      mapped None is same = λ attachment e. absurd (let wrong : None ≡ Some attachment = e in cc)
      mapped (Some old) is same = λ attachment e. (let here : f old ≡ attachment = cc in subst Q here (own same old (before old is)))

      by : (same : Bool) → same_dest at dest ≡ same → ForSome (attachment_of dest (change_first (is_attachment_of at) f attachments)) Q
      by true same =
          subst (λ (found : Option AttachmentState). ForSome found Q)
          (sym (ap (λ (d : Dest). attachment_of dest (change_first (is_attachment_of d) f attachments)) (same_dest_is at dest same) ∙ attachment_of_changed dest f keeps attachments))
          (mapped (attachment_of dest attachments) refl same)
      by false differs = λ attachment e. other differs attachment (before attachment (sym (other_changed at dest attachments differs) ∙ e))

-- a connection whose attachment is taken off has none
own_left : (dest : Dest) (attachments : List AttachmentState) → attachment_of dest (filter (is_not_attachment_of dest) attachments) ≡ None
own_left dest [] = refl
own_left dest (attachment ∷ attachments) = by (own_left dest attachments) (is_attachment_of dest attachment) refl
  where
    by : attachment_of dest (filter (is_not_attachment_of dest) attachments) ≡ None
        → (is : Bool) → is_attachment_of dest attachment ≡ is → attachment_of dest (cond (not is) (attachment ∷ filter (is_not_attachment_of dest) attachments) (filter (is_not_attachment_of dest) attachments)) ≡ None
    by rest true here = rest
    by rest false here = ap (λ (b : Bool). cond b (Some attachment) (attachment_of dest (filter (is_not_attachment_of dest) attachments))) here ∙ rest

-- another has the attachment that it had
other_left : (at dest : Dest) (attachments : List AttachmentState) → same_dest at dest ≡ false → attachment_of dest (filter (is_not_attachment_of at) attachments) ≡ attachment_of dest attachments
other_left at dest [] other = refl
other_left at dest (attachment ∷ attachments) other = by (other_left at dest attachments other) (is_attachment_of at attachment) refl
  where
    by : attachment_of dest (filter (is_not_attachment_of at) attachments) ≡ attachment_of dest attachments
        → (is : Bool) → is_attachment_of at attachment ≡ is → attachment_of dest (cond (not is) (attachment ∷ filter (is_not_attachment_of at) attachments) (filter (is_not_attachment_of at) attachments)) ≡ attachment_of dest (attachment ∷ attachments)
    by rest true here =
        rest ∙ sym (ap (λ (b : Bool). cond b (Some attachment) (attachment_of dest attachments)) (another_attachment at dest attachment other here))
    by rest false here = ap (λ (found : Option AttachmentState). cond (is_attachment_of dest attachment) (Some attachment) found) rest

-- once an attachment is taken off, its connection has none, and all others have theirs
pub attachment_left : (at dest : Dest) (attachments : List AttachmentState) → attachment_of dest (filter (is_not_attachment_of at) attachments) ≡ cond (same_dest at dest) None (attachment_of dest attachments)
attachment_left at dest attachments = by (same_dest at dest) refl
  where
    by : (same : Bool) → same_dest at dest ≡ same → attachment_of dest (filter (is_not_attachment_of at) attachments) ≡ cond same None (attachment_of dest attachments)
    by true same = ap (λ (d : Dest). attachment_of dest (filter (is_not_attachment_of d) attachments)) (same_dest_is at dest same) ∙ own_left dest attachments
    by false other = other_left at dest attachments other

-- The rings of a connection that was attached, and of the ends that are given back.
use Rattle.std.proofs.Common.{◌≡◌, ◌∙◌, ℕ, List, Option, Some, None, Bool, true, is_some, if◌then◌else◌, sym, ap}
use Rattle.std.proofs.lemmas.Bool.{true≢false}
use Rattle.std.specs.Option.{option_map}
use Rattle.gateway_state.specs.declared.event.Dest.{Dest}
use Rattle.board_rings.specs.Attachments.{attachment_of, new_attachment, rings_of, IsWith}
use Rattle.board_rings.specs.Rings.{EndsState, AttachmentState, Ring}
use Rattle.board_rings.proofs.OfAttachments.{same_dest_self}
use Rattle.board_moves.specs.Answers.{ends_of}

abbrev pub pair_of : AttachmentState → Ring × Ring
pair_of attachment = (attachment.ends.in_ring, attachment.ends.out_ring)

-- a connection that was attached has the rings that it was given
pub attached_rings : (dest : Dest) (a b : Ring) (free : ℕ) (old new : List AttachmentState) → IsWith (new_attachment dest a b free) old new → rings_of dest new ≡ Some (a, b)
attached_rings dest a b free old new is =
    ap (λ (found : Option AttachmentState). option_map pair_of found) (is.found dest)
    ∙ ap (λ (own : Bool). option_map pair_of (if own then Some (new_attachment dest a b free) else attachment_of dest old)) (same_dest_self dest)

pair_in : Option (Ring × Ring) → Ring × Ring → Ring × Ring
pair_in None other = other
pair_in (Some pair) other = pair

ends_in : Option EndsState → EndsState → EndsState
ends_in None other = other
ends_in (Some ends) other = ends

-- the ends that are given back belong to these rings
pub paired : (found : Option AttachmentState) (a b : Ring) (ends : EndsState) → option_map pair_of found ≡ Some (a, b) → Some ends ≡ option_map ends_of found → (a ≡ ends.in_ring) × (b ≡ ends.out_ring)
unfolding pair_in ends_in
paired None a b ends rings is = absurd (true≢false (ap is_some is))
paired (Some attachment) a b ends rings is =
    let own : pair_of attachment ≡ (a, b) = ap (λ (o : Option (Ring × Ring)). pair_in o (a, b)) rings in
    let given : ends ≡ attachment.ends = ap (λ (o : Option EndsState). ends_in o ends) is in (
      sym (ap (λ (p : Ring × Ring). p.0) own) ∙ ap (λ (e : EndsState). e.in_ring) (sym given),
      sym (ap (λ (p : Ring × Ring). p.1) own) ∙ ap (λ (e : EndsState). e.out_ring) (sym given),
    )

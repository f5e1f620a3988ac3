-- What one attachment answers, by where it stands.
use Rattle.std.proofs.Common.{◌≡◌, ℕ, List, Bool, false, Option, Some, None, get_or, refl, sym, ap, ◌∙◌}
use Rattle.std.specs.List.{position}
use Rattle.std.specs.Option.{option_map}
use Rattle.rows.proofs.RowLemmas.{find_is_there, find_none}
use Rattle.gateway_state.specs.declared.event.Dest.{Dest}
use Rattle.board_rings.specs.Rings.{AttachmentState}
use Rattle.board_rings.specs.Attachments.{attachment_of, full_or_not, is_attachment_of, is_full, last_sid, last_sid_of, sid_or_none}
use Rattle.board_rings.specs.OnTheWay.{bytes_known_to, bytes_on_the_way, bytes_or_none}

module _ {A : Type 0} (f : Option AttachmentState → A) (dest : Dest) (attachments : List AttachmentState) where
  -- by the attachment that stands there
  answer_at : (i : ℕ) (attachment : AttachmentState) (answer : A) → position (is_attachment_of dest) attachments ≡ Some i → attachment ≡ get_or attachments i attachment → answer ≡ f (Some attachment) → answer ≡ f (attachment_of dest attachments)
  answer_at i attachment answer at here is = is ∙ sym (ap f (find_is_there (is_attachment_of dest) attachments i attachment at here))

  -- by none
  answer_nowhere : (answer : A) → position (is_attachment_of dest) attachments ≡ None → answer ≡ f None → answer ≡ f (attachment_of dest attachments)
  answer_nowhere answer at is = is ∙ sym (ap f (find_none (is_attachment_of dest) attachments at))

abbrev known_bytes : Option AttachmentState → ℕ
known_bytes o = bytes_or_none (option_map (λ (attachment : AttachmentState). bytes_on_the_way attachment.free attachment) o)

pub way_at : (dest : Dest) (attachments : List AttachmentState) (i : ℕ) (attachment : AttachmentState) (bytes : ℕ) → position (is_attachment_of dest) attachments ≡ Some i → attachment ≡ get_or attachments i attachment → bytes ≡ bytes_on_the_way attachment.free attachment → bytes ≡ bytes_known_to dest attachments
way_at dest attachments i attachment bytes at here is = answer_at known_bytes dest attachments i attachment bytes at here is

pub way_nowhere : (dest : Dest) (attachments : List AttachmentState) → position (is_attachment_of dest) attachments ≡ None → 0 ≡ bytes_known_to dest attachments
way_nowhere dest attachments at = answer_nowhere known_bytes dest attachments 0 at refl

pub full_at : (dest : Dest) (attachments : List AttachmentState) (i : ℕ) (attachment : AttachmentState) (full : Bool) → position (is_attachment_of dest) attachments ≡ Some i → attachment ≡ get_or attachments i attachment → full ≡ attachment.full → full ≡ is_full dest attachments
full_at dest attachments i attachment full at here is = answer_at full_or_not dest attachments i attachment full at here is

pub full_nowhere : (dest : Dest) (attachments : List AttachmentState) → position (is_attachment_of dest) attachments ≡ None → false ≡ is_full dest attachments
full_nowhere dest attachments at = answer_nowhere full_or_not dest attachments false at refl

pub sid_at : (dest : Dest) (attachments : List AttachmentState) (i : ℕ) (attachment : AttachmentState) (sid : Option ℕ) → position (is_attachment_of dest) attachments ≡ Some i → attachment ≡ get_or attachments i attachment → sid ≡ last_sid attachment → sid ≡ last_sid_of dest attachments
sid_at dest attachments i attachment sid at here is = answer_at sid_or_none dest attachments i attachment sid at here is

pub sid_nowhere : (dest : Dest) (attachments : List AttachmentState) → position (is_attachment_of dest) attachments ≡ None → None ≡ last_sid_of dest attachments
sid_nowhere dest attachments at = answer_nowhere sid_or_none dest attachments None at refl

-- What is on its way from the board to a writer.
use Rattle.std.specs.Prelude.{◌≡◌, ℕ, ◌-◌, ◌^◌, ◌≤◌, List, length, drop, sum_by, All, Option, Some, None}
use Rattle.std.specs.Option.{option_map}
use Rattle.fanout.specs.declared.outbox.Out.{Out}
use Rattle.fanout.specs.Waiting.{out_len}
use Rattle.gateway_state.specs.declared.event.Dest.{Dest}
use Rattle.board_rings.specs.Attachments.{attachment_of}
use Rattle.board_rings.specs.Rings.{AttachmentState}
use Rattle.board_rings.specs.declared.attachment.TheConstants.{RING_SIZE}

-- the last so many
abbrev pub last_of : {A : Type 0} → ℕ → List A → List A
last_of n xs = drop (length xs - n) xs

-- what was pushed and isn't known to be taken, where so many places of the ring are free: the messages that were
-- pushed last, one for each place that isn't free
abbrev pub on_the_way : ℕ → AttachmentState → List Out
on_the_way free attachment = last_of (RING_SIZE - free) attachment.ends.pushed

-- how many bytes they have
abbrev pub bytes_on_the_way : ℕ → AttachmentState → ℕ
bytes_on_the_way free attachment = sum_by out_len (on_the_way free attachment)

abbrev pub bytes_or_none : Option ℕ → ℕ
bytes_or_none None = 0
bytes_or_none (Some bytes) = bytes

-- how many bytes are on their way to a connection, where so many places are free; none where it isn't attached
abbrev pub bytes_to : Dest → ℕ → List AttachmentState → ℕ
bytes_to dest free attachments = bytes_or_none (option_map (bytes_on_the_way free) (attachment_of dest attachments))

-- where those places are free that are known to be
abbrev pub bytes_known_to : Dest → List AttachmentState → ℕ
bytes_known_to dest attachments = bytes_or_none (option_map (λ (attachment : AttachmentState). bytes_on_the_way attachment.free attachment) (attachment_of dest attachments))

abbrev pub total_of : List ℕ → ℕ
total_of lengths = sum_by (λ (len : ℕ). len) lengths

-- the count is that of these lengths, which are so few and so short that it fits
pub record CountsLengths (lengths : List ℕ) (count room : ℕ) : Type 0 where
  pub few : length lengths ≤ RING_SIZE
  pub room_for_all : RING_SIZE ≤ room
  pub short : All (λ len. len ≤ 2 ^ 65) lengths
  pub counted : count ≡ total_of lengths

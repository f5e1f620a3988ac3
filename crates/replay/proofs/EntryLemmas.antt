-- Facts on files as text.
use Rattle.std.proofs.Common.{◌≡◌, ℕ, Bool, true, false, List, Some, None, refl}
use Rattle.std.specs.Prelude.{if◌then◌else◌}
use Rattle.std.specs.Str.{IsUtf8, is_utf8}
use Rattle.std.proofs.lemmas.Str.{IsUtf8-from_is_utf8, is_utf8-from_IsUtf8}
use Rattle.replay.specs.Script.{text_file}

no_text : (t : Bool) (bytes : List ℕ) → is_utf8 bytes ≡ t → ¬ (IsUtf8 bytes) → None ≡ (if t then Some (Some bytes) else None)
no_text true bytes is binary = absurd (binary (IsUtf8-from_is_utf8 bytes is))
no_text false bytes is binary = refl

pub text_file-some : (bytes : List ℕ) → IsUtf8 bytes → Some (Some bytes) ≡ text_file bytes
text_file-some bytes is = rw (is_utf8-from_IsUtf8 bytes is) refl

pub text_file-none : (bytes : List ℕ) → ¬ (IsUtf8 bytes) → None ≡ text_file bytes
text_file-none bytes binary = no_text (is_utf8 bytes) bytes refl binary

-- The texts that an ERROR carries.
use Rattle.std.specs.Prelude.{ℕ, List, [], codes, ◌==◌, if◌then◌else◌}
use Rattle.ca_message.specs.declared.codes.TheConstants.{ECA_ALLOCMEM, ECA_TOLARGE, ECA_BADTYPE, ECA_INTERNAL, ECA_BADCOUNT, ECA_BADMASK, ECA_NOWTACCESS, ECA_BADCHID}

-- the text of an error, by its code
abbrev pub text_of : ℕ → List ℕ
text_of code =
    if code == ECA_ALLOCMEM then codes "limit reached"
    else if code == ECA_TOLARGE then codes "value too large"
    else if code == ECA_BADTYPE then codes "type not served"
    else if code == ECA_INTERNAL then codes "request not understood"
    else if code == ECA_BADCOUNT then codes "bad element count"
    else if code == ECA_BADMASK then codes "bad event mask"
    else if code == ECA_NOWTACCESS then codes "no write access"
    else if code == ECA_BADCHID then codes "unknown channel"
    else []

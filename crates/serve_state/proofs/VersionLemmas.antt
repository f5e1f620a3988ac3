-- What is heard of a stream is what its headers say.
use Rattle.std.proofs.Common.{◌≡◌, ◌↔◌, ℕ, zero, suc, ◌+◌, ◌-◌, ◌<◌, ◌≤◌, ◌⊎◌, List, [], ◌∷◌, ◌++◌, length, take, drop, Bool, true, false, ◌||◌, Option, Some, None, refl, sym, ap, subst, ◌∙◌, append_assoc, arith, inl, inr}
use Rattle.std.proofs.lemmas.Bool.{false≢true, lt-ltb, or_cases}
use Rattle.std.proofs.lemmas.List.{append-nil, drop_at, length-append, length-drop, length-take-le, take-append-drop}
use Rattle.std.proofs.Math.Seq.{take-append_seam}
use Rattle.std.specs.List.{concat}
use Rattle.std.specs.Prelude.{nat_lt, if◌then◌else◌}
use Rattle.ca_header.specs.Framing.{IsPartHead}
use Rattle.ca_header.specs.Reading.{front_at, head_at, header_at, judged, refused, verdict}
use Rattle.ca_header.specs.Spelling.{AreSpelled, BeginsWith, HasFault, IsBytes, IsProperPrefix, IsSpelled, IsSpelling, IsWellFormed}
use Rattle.ca_header.specs.declared.header.Header.{Header}
use Rattle.ca_header.specs.declared.header.Message.{Message}
use Rattle.ca_header.specs.declared.reading.FrameFault.{FrameFault}
use Rattle.ca_header.specs.declared.reading.FrameFault.TheVariants as faults
use Rattle.ca_header.specs.declared.reading.Front.{Front}
use Rattle.ca_header.specs.declared.reading.Head.{Head}
use Rattle.ca_header.specs.declared.reading.Head.TheVariants.{Need, Got, Misaligned, TooLarge}
use Rattle.ca_header.proofs.Fields.{IsBytes-drop, IsBytes-take}
use Rattle.ca_header.proofs.Fronts.{IsFront, IsFront-front_at, begins-head_at, bodiless, faulty, head_at-begins, headless, verdict-fault, verdict-well_formed, whole}
use Rattle.ca_header.proofs.Heads.{header_at-spelling}
use Rattle.ca_header.proofs.Messages.{head_at-part}
use Rattle.serve_state.specs.Versions.{HasHeader, IsByHeaders, SaysTooOld, VersionState, after_byte, after_bytes, after_pieces, is_too_old, unheard, with_head, with_header_byte}

-- ---- the states that it goes through

-- these bytes of a header came
abbrev holding : List ℕ → Bool → VersionState
holding held old = record { held = held; skip = 0; lost = false; too_old = old }

-- a message begins
abbrev at_seam : Bool → VersionState
at_seam old = holding [] old

-- so many bytes of a payload are to come
abbrev skipping : ℕ → Bool → VersionState
skipping n old = record { held = []; skip = n; lost = false; too_old = old }

abbrev losing : Bool → VersionState
losing old = record { held = []; skip = 0; lost = true; too_old = old }

after-append : (xs ys : List ℕ) (state : VersionState) → after_bytes (xs ++ ys) state ≡ after_bytes ys (after_bytes xs state)
after-append [] ys state = refl
after-append (x ∷ xs) ys state = after-append xs ys (after_byte x state)

skips : (bytes : List ℕ) (n : ℕ) (old : Bool) → length bytes ≤ n → after_bytes bytes (skipping n old) ≡ skipping (n - length bytes) old
skips [] n old few = ap (λ (k : ℕ). skipping k old) (omega arith)
skips (b ∷ bytes) n old few =
    let skipped : after_byte b (skipping n old) ≡ skipping (n - 1) old = rw (lt-ltb 0 n (omega (arith, few))) refl in
    ap (after_bytes bytes) skipped ∙ skips bytes (n - 1) old (omega (arith, few)) ∙ ap (λ (k : ℕ). skipping k old) (omega arith)

stays_lost : (bytes : List ℕ) (old : Bool) → after_bytes bytes (losing old) ≡ losing old
stays_lost [] old = refl
stays_lost (b ∷ bytes) old = stays_lost bytes old

-- ---- a header

-- each beginning of the bytes that isn't all of them is less than a header
abbrev AreNeeded : List ℕ → Type 0
AreNeeded bytes = (front behind : List ℕ) → front ++ behind ≡ bytes → 0 < length behind → head_at front ≡ Need

with_head-any : (held : List ℕ) (found : Head) (xs : List ℕ) (old : Bool) → with_head held found (holding xs old) ≡ with_head held found (at_seam old)
with_head-any held Need xs old = refl
with_head-any held (Got h n) xs old = refl
with_head-any held Misaligned xs old = refl
with_head-any held TooLarge xs old = refl

reads : (xs ys : List ℕ) (old : Bool) → 0 < length ys → AreNeeded (xs ++ ys) → after_bytes ys (holding xs old) ≡ with_head (xs ++ ys) (head_at (xs ++ ys)) (at_seam old)
reads xs [] old some needed = absurd (omega (arith, some))
reads xs (b ∷ []) old some needed = with_head-any (xs ++ b ∷ []) (head_at (xs ++ b ∷ [])) xs old
reads xs (b ∷ c ∷ ys) old some needed =
    let seam : (xs ++ b ∷ []) ++ (c ∷ ys) ≡ xs ++ (b ∷ c ∷ ys) = append_assoc xs (b ∷ []) (c ∷ ys) in
    let need : head_at (xs ++ b ∷ []) ≡ Need = needed (xs ++ b ∷ []) (c ∷ ys) seam (omega arith) in
    ap (after_bytes (c ∷ ys)) (ap (λ (found : Head). with_head (xs ++ b ∷ []) found (holding xs old)) need)
    ∙ reads (xs ++ b ∷ []) (c ∷ ys) old (omega arith) (subst AreNeeded (sym seam) needed)
    ∙ ap (λ (bytes : List ℕ). with_head bytes (head_at bytes) (at_seam old)) seam

IsBytes-front : (front behind bytes : List ℕ) → front ++ behind ≡ bytes → IsBytes bytes → IsBytes front
IsBytes-front front behind bytes seam fits =
    subst IsBytes (take-append_seam front behind) (IsBytes-take (length front) (front ++ behind) (subst IsBytes (sym seam) fits))

IsBytes-behind : (front behind bytes : List ℕ) → front ++ behind ≡ bytes → IsBytes bytes → IsBytes behind
IsBytes-behind front behind bytes seam fits =
    subst IsBytes (drop_at front behind (length front) refl) (IsBytes-drop (length front) (front ++ behind) (subst IsBytes (sym seam) fits))

spelled-needed : (h : Header) (head : List ℕ) → IsSpelling h head → IsBytes head → AreNeeded head
spelled-needed h head spelling fits front behind seam some =
    let prefix : IsProperPrefix front head = record { missing = behind; some_missing = some; parts = seam } in
    head_at-part front (IsBytes-front front behind head seam fits) (h, head, spelling, prefix)

none_some : (found : Option (Header × ℕ)) (x : Header × ℕ) → found ≡ None → found ≡ Some x → ⊥
none_some found x none some = absurd cc

spelled-some : (h : Header) (head : List ℕ) → IsSpelling h head → 0 < length head
unfolding header_at
spelled-some h [] spelling = absurd (none_some (header_at []) (h, 0) refl (header_at-spelling h [] [] spelling))
spelled-some h (b ∷ head) spelling = omega arith

reads-header : (h : Header) (head : List ℕ) (old : Bool) → IsSpelling h head → IsBytes head → after_bytes head (at_seam old) ≡ with_head head (verdict h (length head)) (at_seam old)
reads-header h head old spelling fits =
    let found : head_at head ≡ verdict h (length head) = ap judged (ap header_at (sym (append-nil head)) ∙ header_at-spelling h head [] spelling) in
    reads [] head old (spelled-some h head spelling) (spelled-needed h head spelling fits) ∙ ap (λ (it : Head). with_head head it (at_seam old)) found

-- a header that may head a message, and some of its payload
reads-payload : (h : Header) (head payload : List ℕ) (old : Bool) → IsSpelling h head → IsWellFormed h → IsBytes head → length payload ≤ h.size
    → after_bytes (head ++ payload) (at_seam old) ≡ skipping (h.size - length payload) (old || is_too_old h)
reads-payload h head payload old spelling w fits few =
    let got : with_head head (verdict h (length head)) (at_seam old) ≡ skipping h.size (old || is_too_old h) =
    ap (λ (it : Head). with_head head it (at_seam old)) (verdict-well_formed h (length head) w) in
    after-append head payload (at_seam old) ∙ ap (after_bytes payload) (reads-header h head old spelling fits ∙ got)
    ∙ skips payload h.size (old || is_too_old h) few

with_head-refused : (f : FrameFault) (head : List ℕ) (old : Bool) → with_head head (refused f) (at_seam old) ≡ losing old
with_head-refused faults.Misaligned head old = refl
with_head-refused faults.TooLarge head old = refl

-- ---- what was heard was said

part-state : (bytes : List ℕ) (old : Bool) → IsBytes bytes → IsPartHead bytes → after_bytes bytes (at_seam old) ≡ holding bytes old
part-state [] old fits part = refl
part-state (b ∷ bytes) old fits part =
    let all : List ℕ = b ∷ bytes in
    let missing = part.3.missing in
    let needed : AreNeeded all = λ front behind seam some.
    let longer : front ++ (behind ++ missing) ≡ part.1 = sym (append_assoc front behind missing) ∙ ap (λ (t : List ℕ). t ++ missing) seam ∙ part.3.parts in
    let prefix : IsProperPrefix front part.1 = record { missing = behind ++ missing; some_missing = omega (arith, some, length-append behind missing); parts = longer } in
    head_at-part front (IsBytes-front front behind all seam fits) (part.0, part.1, part.2, prefix) in
    reads [] all old (omega arith) needed ∙ ap (λ (it : Head). with_head all it (at_seam old)) (head_at-part all fits part)

here : (bytes : List ℕ) (h : Header) (n : ℕ) → head_at bytes ≡ Got h n → is_too_old h ≡ true → SaysTooOld bytes
here bytes h n got old = (h, record { messages = []; before = []; rest = bytes; len = n; spelled = refl; stands = got; parts = refl }, old)

later : (m : Message) (first rest bytes : List ℕ) → IsSpelled m first → first ++ rest ≡ bytes → SaysTooOld rest → SaysTooOld bytes
later m first rest bytes spelled seam says =
    let has = says.1 in
    let parts : bytes ≡ (first ++ has.before) ++ has.rest = sym seam ∙ ap (λ (t : List ℕ). first ++ t) has.parts ∙ sym (append_assoc first has.before has.rest) in
    (says.0, record { messages = m ∷ has.messages; before = first ++ has.before; rest = has.rest; len = has.len; spelled = (first, has.before, spelled, has.spelled, refl); stands = has.stands; parts = parts }, says.2)

abbrev Sound : ℕ → Type 0
Sound k = (bytes : List ℕ) (old : Bool) → length bytes ≤ k → IsBytes bytes → (after_bytes bytes (at_seam old)).too_old ≡ true → (old ≡ true) ⊎ SaysTooOld bytes

sound_by : (k : ℕ) → Sound k → (bytes : List ℕ) (old : Bool) (front : Front) → IsFront bytes front → length bytes ≤ suc k → IsBytes bytes → (after_bytes bytes (at_seam old)).too_old ≡ true → (old ≡ true) ⊎ SaysTooOld bytes
sound_by k ih bytes old _ (headless part) le fits e = inl (sym (ap (λ (s : VersionState). s.too_old) (part-state bytes old fits part)) ∙ e)
sound_by k ih bytes old _ (faulty h n f b fault) le fits e =
    let head_fits : IsBytes b.head = IsBytes-front b.head b.rest bytes (sym b.parts) fits in
    let lost : after_bytes b.head (at_seam old) ≡ losing old =
    reads-header h b.head old b.spelling head_fits ∙ ap (λ (it : Head). with_head b.head it (at_seam old)) (verdict-fault h (length b.head) f fault) ∙ with_head-refused f b.head old in
    let state : after_bytes bytes (at_seam old) ≡ losing old =
    ap (λ (t : List ℕ). after_bytes t (at_seam old)) b.parts ∙ after-append b.head b.rest (at_seam old) ∙ ap (after_bytes b.rest) lost ∙ stays_lost b.rest old in
    inl (sym (ap (λ (s : VersionState). s.too_old) state) ∙ e)
sound_by k ih bytes old _ (bodiless h n b w less) le fits e =
    let head_fits : IsBytes b.head = IsBytes-front b.head b.rest bytes (sym b.parts) fits in
    let lens : length bytes ≡ length b.head + length b.rest = ap length b.parts ∙ length-append b.head b.rest in
    let head_len = b.len in
    let state : after_bytes bytes (at_seam old) ≡ skipping (h.size - length b.rest) (old || is_too_old h) =
    ap (λ (t : List ℕ). after_bytes t (at_seam old)) b.parts ∙ reads-payload h b.head b.rest old b.spelling w head_fits (omega arith) in
    elim (or_cases old (is_too_old h) (sym (ap (λ (s : VersionState). s.too_old) state) ∙ e)) [
      | inl before ↦ inl before
      | inr now ↦ inr (here bytes h n (head_at-begins bytes h n b ∙ verdict-well_formed h n w) now)
    ]
sound_by k ih bytes old _ (whole h n b w all) le fits e =
    let head_fits : IsBytes b.head = IsBytes-front b.head b.rest bytes (sym b.parts) fits in
    let lens : length bytes ≡ length b.head + length b.rest = ap length b.parts ∙ length-append b.head b.rest in
    let head_len = b.len in
    let some = spelled-some h b.head b.spelling in
    let payload : List ℕ = take h.size b.rest in
    let rest : List ℕ = drop h.size b.rest in
    let size : length payload ≡ h.size = length-take-le h.size b.rest (omega arith) in
    let seam : (b.head ++ payload) ++ rest ≡ bytes =
    append_assoc b.head payload rest ∙ ap (λ (t : List ℕ). b.head ++ t) (take-append-drop h.size b.rest) ∙ sym b.parts in
    let after : after_bytes (b.head ++ payload) (at_seam old) ≡ at_seam (old || is_too_old h) =
    reads-payload h b.head payload old b.spelling w head_fits (omega (arith, size)) ∙ ap (λ (i : ℕ). skipping i (old || is_too_old h)) (omega (arith, size)) in
    let state : after_bytes bytes (at_seam old) ≡ after_bytes rest (at_seam (old || is_too_old h)) =
    ap (λ (t : List ℕ). after_bytes t (at_seam old)) (sym seam) ∙ after-append (b.head ++ payload) rest (at_seam old) ∙ ap (after_bytes rest) after in
    let spelled : IsSpelled (record { head = h; payload = payload }) (b.head ++ payload) = record { head = b.head; spelling = b.spelling; well_formed = w; size = size; parts = refl } in
    elim (ih rest (old || is_too_old h) (omega (arith, length-drop h.size b.rest)) (IsBytes-behind (b.head ++ payload) rest bytes seam fits) (sym (ap (λ (s : VersionState). s.too_old) state) ∙ e)) [
      | inl so_far ↦ elim (or_cases old (is_too_old h) so_far) [
        | inl before ↦ inl before
        | inr now ↦ inr (here bytes h n (head_at-begins bytes h n b ∙ verdict-well_formed h n w) now)
      ]
      | inr says ↦ inr (later (record { head = h; payload = payload }) (b.head ++ payload) rest bytes spelled seam says)
    ]

sound : (k : ℕ) → Sound k
sound zero [] old le fits e = inl e
sound zero (b ∷ bytes) old le fits e = absurd (omega (arith, le))
sound (suc k) bytes old le fits e = sound_by k (sound k) bytes old (front_at bytes) (IsFront-front_at bytes fits) le fits e

-- ---- what was said is heard

with_head-keeps : (held : List ℕ) (found : Head) (state : VersionState) → state.too_old ≡ true → (with_head held found state).too_old ≡ true
with_head-keeps held Need state e = e
with_head-keeps held (Got h n) state e = rw e refl
with_head-keeps held Misaligned state e = e
with_head-keeps held TooLarge state e = e

after_byte-keeps : (byte : ℕ) (state : VersionState) → state.too_old ≡ true → (after_byte byte state).too_old ≡ true
after_byte-keeps byte state e =
    elim state.lost as (λ v. (if v then state else (if nat_lt 0 state.skip then record state { skip = state.skip - 1 } else with_header_byte byte state)).too_old ≡ true) [
      | true ↦ e
      | false ↦ elim (nat_lt 0 state.skip) as (λ v. (if v then record state { skip = state.skip - 1 } else with_header_byte byte state).too_old ≡ true) [
        | true ↦ e
        | false ↦ with_head-keeps (state.held ++ byte ∷ []) (head_at (state.held ++ byte ∷ [])) state e
      ]
    ]

after_bytes-keeps : (bytes : List ℕ) (state : VersionState) → state.too_old ≡ true → (after_bytes bytes state).too_old ≡ true
after_bytes-keeps [] state e = e
after_bytes-keeps (byte ∷ bytes) state e = after_bytes-keeps bytes (after_byte byte state) (after_byte-keeps byte state e)

one-message : (m : Message) (text : List ℕ) (old : Bool) → IsSpelled m text → IsBytes text → after_bytes text (at_seam old) ≡ at_seam (old || is_too_old m.head)
one-message m text old s fits =
    let size = s.size in
    ap (λ (t : List ℕ). after_bytes t (at_seam old)) s.parts
    ∙ reads-payload m.head s.head m.payload old s.spelling s.well_formed (IsBytes-front s.head m.payload text (sym s.parts) fits) (omega (arith, size))
    ∙ ap (λ (i : ℕ). skipping i (old || is_too_old m.head)) (omega (arith, size))

passes : (messages : List Message) (text : List ℕ) (old : Bool) → AreSpelled messages text → IsBytes text → (after : Bool) × (after_bytes text (at_seam old) ≡ at_seam after)
passes [] text old spelled fits = (old, ap (λ (t : List ℕ). after_bytes t (at_seam old)) spelled)
passes (m ∷ ms) text old spelled fits =
    let first = spelled.0 in
    let rest = spelled.1 in
    let next = passes ms rest (old || is_too_old m.head) spelled.3 (IsBytes-behind first rest text (sym spelled.4) fits) in (
      next.0,
      ap (λ (t : List ℕ). after_bytes t (at_seam old)) spelled.4 ∙ after-append first rest (at_seam old)
          ∙ ap (after_bytes rest) (one-message m first old spelled.2 (IsBytes-front first rest text (sym spelled.4) fits)) ∙ next.1,
    )

or_true : (x y : Bool) → y ≡ true → (x || y) ≡ true
or_true true y e = refl
or_true false y e = e

hears : (h : Header) (n : ℕ) (bytes : List ℕ) (old : Bool) → IsBytes bytes → head_at bytes ≡ Got h n → is_too_old h ≡ true → (after_bytes bytes (at_seam old)).too_old ≡ true
hears h n bytes old fits got is =
    let there = begins-head_at bytes h n fits got in
    let b = there.0 in
    let head_fits : IsBytes b.head = IsBytes-front b.head b.rest bytes (sym b.parts) fits in
    let read : after_bytes (b.head ++ []) (at_seam old) ≡ skipping (h.size - 0) (old || is_too_old h) = reads-payload h b.head [] old b.spelling there.1 head_fits (omega arith) in
    let state : after_bytes bytes (at_seam old) ≡ after_bytes b.rest (skipping (h.size - 0) (old || is_too_old h)) =
    ap (λ (t : List ℕ). after_bytes t (at_seam old)) b.parts ∙ after-append b.head b.rest (at_seam old)
    ∙ ap (after_bytes b.rest) (ap (λ (t : List ℕ). after_bytes t (at_seam old)) (sym (append-nil b.head)) ∙ read) in
    ap (λ (s : VersionState). s.too_old) state ∙ after_bytes-keeps b.rest (skipping (h.size - 0) (old || is_too_old h)) (or_true old (is_too_old h) is)

complete : (stream : List ℕ) → IsBytes stream → SaysTooOld stream → (after_bytes stream (at_seam false)).too_old ≡ true
complete stream fits says =
    let has = says.1 in
    let before = passes has.messages has.before false has.spelled (IsBytes-front has.before has.rest stream (sym has.parts) fits) in
    let state : after_bytes stream (at_seam false) ≡ after_bytes has.rest (at_seam before.0) =
    ap (λ (t : List ℕ). after_bytes t (at_seam false)) has.parts ∙ after-append has.before has.rest (at_seam false) ∙ ap (after_bytes has.rest) before.1 in
    ap (λ (s : VersionState). s.too_old) state
    ∙ hears says.0 has.len has.rest before.0 (IsBytes-behind has.before has.rest stream (sym has.parts) fits) has.stands says.2

-- ---- however it comes

joined : (pieces : List (List ℕ)) (state : VersionState) → after_pieces pieces state ≡ after_bytes (concat pieces) state
joined [] state = refl
joined (piece ∷ pieces) state = joined pieces (after_bytes piece state) ∙ sym (after-append piece (concat pieces) state)

no_false : {A : Type 0} → false ≡ true → A
no_false e = absurd (false≢true e)

pub by_headers : (pieces : List (List ℕ)) → IsByHeaders pieces
by_headers pieces fits =
    let stream : List ℕ = concat pieces in
    let same : (after_pieces pieces unheard).too_old ≡ (after_bytes stream (at_seam false)).too_old = ap (λ (s : VersionState). s.too_old) (joined pieces unheard) in (
      λ e. elim (sound (length stream) stream false (omega arith) fits (sym same ∙ e)) [ inl never ↦ no_false never | inr says ↦ says ],
      λ says. same ∙ complete stream fits says,
    )

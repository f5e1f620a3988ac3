-- Bytes that are written, counted and held.
use Rattle.std.proofs.Common.{◌≡◌, ℕ, ◌+◌, ◌-◌, ◌≤◌, min, take, drop, Bool, true, false, List, [], ◌++◌, length, Option, Some, None, refl, sym, ap, subst, ◌∙◌, arith}
use Rattle.std.specs.Io.KnownBytes.{Appends, Keeps}
use Rattle.std.proofs.lemmas.List.{append-nil, append_assoc, length-append, length-drop, length-take, take-append-drop, take_all}
use Rattle.std.proofs.Math.Seq.{take-add}
use Rattle.session_worker.specs.Links.{HasRisen}
use Rattle.session_worker.specs.Writing.{IsUpTo, IsWritten, most_counted, Progress}

pub appends_none : (written : Option (List ℕ)) → Appends written written []
appends_none None = tt
appends_none (Some xs) = sym (append-nil xs)

pub appends_more : (old between new : Option (List ℕ)) (part more : List ℕ) → Appends old between part → Appends between new more → Appends old new (part ++ more)
appends_more None between new part more a b = tt
appends_more (Some xs) None new part more a b = absurd a
appends_more (Some xs) (Some ys) None part more a b = absurd b
appends_more (Some xs) (Some ys) (Some zs) part more a b = b ∙ ap (λ (bytes : List ℕ). bytes ++ more) a ∙ append_assoc xs part more

pub appends_kept : (old between new : Option (List ℕ)) (part : List ℕ) → Appends old between part → Keeps between new → Appends old new part
appends_kept None between new part a b = tt
appends_kept (Some xs) None new part a b = absurd a
appends_kept (Some xs) (Some ys) None part a b = absurd b
appends_kept (Some xs) (Some ys) (Some zs) part a b = b ∙ a

count_more : (old between new a b : ℕ) → (old ≤ most_counted → between ≡ min (old + a) most_counted) → (between ≤ most_counted → new ≡ min (between + b) most_counted) → old ≤ most_counted
    → new ≡ min (old + (a + b)) most_counted
count_more old between new a b p q fits =
    let before = p fits in
    let after = q (omega (arith, before)) in
    omega (arith, before, after)

pub risen_since : (old between new : ℕ) → between ≡ old → HasRisen between new → HasRisen old new
risen_since old between new same risen = subst (λ (n : ℕ). HasRisen n new) same risen

up_to_since : (fine : Bool) (left held : List ℕ) (old between new : Progress) → between.failed ≡ old.failed → IsUpTo fine left held between new → IsUpTo fine left held old new
up_to_since true left held old between new same so_far = (so_far.0, so_far.1 ∙ same)
up_to_since false left held old between new same so_far = risen_since old.failed between.failed new.failed same so_far

-- nothing was written, and all is held
pub written_none : (bytes held : List ℕ) (now : Progress) → held ≡ bytes → IsWritten true bytes held now now
written_none bytes held now same = record {
  part = [];
  left = bytes;
  parts = refl;
  written = appends_none now.written;
  counted = λ fits. omega (arith, fits);
  so_far = (sym same, refl);
}

-- bytes of which a first part was written, and then of those that were held and of more
pub written_both : (fine : Bool) (bytes held more held_now : List ℕ) (old between new : Progress) → IsWritten true bytes held old between → IsWritten fine (held ++ more) held_now between new
    → IsWritten fine (bytes ++ more) held_now old new
written_both fine bytes held more held_now old between new a b =
    let whole : bytes ≡ a.part ++ held = a.parts ∙ ap (λ (xs : List ℕ). a.part ++ xs) a.so_far.0 in
    record {
      part = a.part ++ b.part;
      left = b.left;
      parts =
          ap (λ (xs : List ℕ). xs ++ more) whole
          ∙ append_assoc a.part held more
          ∙ ap (λ (xs : List ℕ). a.part ++ xs) b.parts
          ∙ sym (append_assoc a.part b.part b.left);
      written = appends_more old.written between.written new.written a.part b.part a.written b.written;
      counted =
          λ fits.
          count_more old.count between.count new.count (length a.part) (length b.part) a.counted b.counted fits
          ∙ ap (λ (n : ℕ). min (old.count + n) most_counted) (sym (length-append a.part b.part));
      so_far = up_to_since fine b.left held_now old between new a.so_far.1 b.so_far;
    }

-- bytes of which a call has failed, and more
pub written_part : (bytes more held held_now : List ℕ) (old new : Progress) → IsWritten false bytes held old new → IsWritten false (bytes ++ more) held_now old new
written_part bytes more held held_now old new a = record {
  part = a.part;
  left = a.left ++ more;
  parts = ap (λ (xs : List ℕ). xs ++ more) a.parts ∙ append_assoc a.part a.left more;
  written = a.written;
  counted = a.counted;
  so_far = a.so_far;
}

-- so many of the bytes were written and counted
pub record WritesTo (bytes : List ℕ) (at : ℕ) (old new : Progress) : Type 0 where
  pub within : at ≤ length bytes
  pub written : Appends old.written new.written (take at bytes)
  pub counted : old.count ≤ most_counted → new.count ≡ min (old.count + at) most_counted
  pub fine : new.failed ≡ old.failed

pub writes_none : (bytes : List ℕ) (old : Progress) → WritesTo bytes 0 old old
writes_none bytes old = record { within = omega arith; written = appends_none old.written; counted = λ fits. omega (arith, fits); fine = refl }

pub writes_more : (bytes : List ℕ) (at n : ℕ) (old between new : Progress) → WritesTo bytes at old between → n ≤ length (take (length bytes - at) (drop at bytes))
    → Appends between.written new.written (take n (take (length bytes - at) (drop at bytes))) → new.count ≡ min (between.count + n) most_counted → new.failed ≡ between.failed
    → WritesTo bytes (at + n) old new
writes_more bytes at n old between new so_far within written counted same =
    let rest : take (length bytes - at) (drop at bytes) ≡ drop at bytes = take_all (length bytes - at) (drop at bytes) (omega (arith, length-drop at bytes)) in
    record {
      within = omega (arith, so_far.within, within, ap length rest, length-drop at bytes);
      written =
          subst (Appends old.written new.written) (sym (take-add at n bytes))
          (appends_more old.written between.written new.written (take at bytes) (take n (drop at bytes)) so_far.written
          (subst (λ (xs : List ℕ). Appends between.written new.written (take n xs)) rest written));
      counted = count_more old.count between.count new.count at n so_far.counted (λ _. counted);
      fine = same ∙ so_far.fine;
    }

pub written_all : (bytes : List ℕ) (at : ℕ) (old new : Progress) → WritesTo bytes at old new → length bytes ≤ at → IsWritten true bytes [] old new
written_all bytes at old new so_far past =
    let whole : take at bytes ≡ bytes = take_all at bytes past in
    let len : at ≡ length bytes = omega (arith, so_far.within, past) in
    record {
      part = bytes;
      left = [];
      parts = sym (append-nil bytes);
      written = subst (Appends old.written new.written) whole so_far.written;
      counted = λ fits. so_far.counted fits ∙ ap (λ (n : ℕ). min (old.count + n) most_counted) len;
      so_far = (refl, so_far.fine);
    }

pub written_till : (bytes : List ℕ) (at : ℕ) (old between new : Progress) → WritesTo bytes at old between → Keeps between.written new.written → HasRisen between.failed new.failed
    → new.count ≡ between.count → IsWritten false bytes [] old new
written_till bytes at old between new so_far kept risen same =
    let len : at ≡ length (take at bytes) = omega (arith, length-take at bytes, so_far.within) in
    record {
      part = take at bytes;
      left = drop at bytes;
      parts = sym (take-append-drop at bytes);
      written = appends_kept old.written between.written new.written (take at bytes) so_far.written kept;
      counted = λ fits. same ∙ so_far.counted fits ∙ ap (λ (n : ℕ). min (old.count + n) most_counted) len;
      so_far = risen_since old.failed between.failed new.failed so_far.fine risen;
    }

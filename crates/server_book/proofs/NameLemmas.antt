-- Names, each once.
use Rattle.std.proofs.Common.{◌≡◌, ℕ, Bool, true, false, ◌||◌, bytes_eq, cond, List, [], ◌∷◌, ◌++◌, refl, sym, subst}
use Rattle.std.specs.Cmp.Lexicographic.{bytes_decides}
use Rattle.server_book.specs.Names.{AreApart, is_among}

neither : (p q : Bool) → (p || q) ≡ false → (p ≡ false) × (q ≡ false)
neither true q e = absurd (let no : true ≡ false = e in cc)
neither false q e = (refl, e)

from_neither : (p q : Bool) → p ≡ false → q ≡ false → (p || q) ≡ false
from_neither true q e f = absurd (let no : true ≡ false = e in cc)
from_neither false q e f = f

turned : (a b : List ℕ) (t : Bool) → bytes_eq b a ≡ t → bytes_eq a b ≡ false → t ≡ false
turned a b true holds fails =
    let same : b ≡ a = (bytes_decides b a).0 holds in
    let again : bytes_eq a b ≡ true = subst (λ (x : List ℕ). bytes_eq a x ≡ true) (sym same) ((bytes_decides a a).1 refl) in
    absurd cc
turned a b false holds fails = refl

other_way : (a b : List ℕ) → bytes_eq a b ≡ false → bytes_eq b a ≡ false
other_way a b fails = turned a b (bytes_eq b a) refl fails

-- a name that isn't among them, and isn't the one that comes last
pub among-push : (names : List (List ℕ)) (last name : List ℕ) → is_among names name ≡ false → bytes_eq last name ≡ false → is_among (names ++ last ∷ []) name ≡ false
among-push [] last name none other = from_neither (bytes_eq last name) false other refl
among-push (first ∷ names) last name none other =
    let both = neither (bytes_eq first name) (is_among names name) none in
    from_neither (bytes_eq first name) (is_among (names ++ last ∷ []) name) both.0 (among-push names last name both.1 other)

pub apart-push : (names : List (List ℕ)) (last : List ℕ) → AreApart names → is_among names last ≡ false → AreApart (names ++ last ∷ [])
apart-push [] last apart none = (refl, tt)
apart-push (first ∷ names) last apart none =
    let both = neither (bytes_eq first last) (is_among names last) none in
    (among-push names last first apart.0 (other_way first last both.0), apart-push names last apart.1 both.1)

pub apart-pushed : (b : Bool) (names new : List (List ℕ)) (name copy : List ℕ) → AreApart names → is_among names name ≡ false → copy ≡ name → new ≡ cond b (names ++ copy ∷ []) names → AreApart new
apart-pushed true names new name copy apart none same e =
    subst AreApart (sym e) (apart-push names copy apart (subst (λ (x : List ℕ). is_among names x ≡ false) (sym same) none))
apart-pushed false names new name copy apart none same e = subst AreApart (sym e) apart

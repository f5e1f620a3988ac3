-- Elements that stand one after another in bytes.
use Rattle.std.proofs.Common.{◌≡◌, ℕ, zero, suc, ◌+◌, ◌-◌, ◌*◌, ◌<◌, ◌≤◌, min, List, [], ◌∷◌, ◌++◌, replicate, ⊎_elim, length, take, drop, get_or, refl, sym, ap, ◌∙◌, arith}
use Rattle.std.proofs.lemmas.Bool.{cases_lt}
use Rattle.std.proofs.lemmas.List.{append_assoc, length-append, replicate-append-replicate, take_all, drop-drop, length-drop, length-take, nil_from_length, take-append-drop, take-append-le, drop-append-le}
use Rattle.std.proofs.Math.Nat.{add_comm, mul-le-mul_right, suc-mul, zero-mul}
use Rattle.std.specs.List.{concat}
use Rattle.dbr_layout.specs.Elements.{AreSized, elements_in}

-- there are as many as are asked for
pub length-elements_in : (size count : ℕ) (bytes : List ℕ) → length (elements_in size count bytes) ≡ count
length-elements_in size zero bytes = refl
length-elements_in size (suc count) bytes = let e = length-elements_in size count (drop size bytes) in omega (arith, e)

-- joined, the elements of all of the bytes are the bytes
pub concat-elements_in : (size count : ℕ) (bytes : List ℕ) → length bytes ≡ count * size → concat (elements_in size count bytes) ≡ bytes
concat-elements_in size zero bytes h = sym (nil_from_length bytes (omega (arith, h)))
concat-elements_in size (suc count) bytes h =
    let rest : length (drop size bytes) ≡ count * size = omega (arith, h, length-drop size bytes, suc-mul count size) in
    rw (concat-elements_in size count (drop size bytes) rest) (take-append-drop size bytes)

-- bytes past the elements don't matter
pub elements_in-append : (size count : ℕ) (bytes rest : List ℕ) → count * size ≤ length bytes → elements_in size count (bytes ++ rest) ≡ elements_in size count bytes
elements_in-append size zero bytes rest h = refl
elements_in-append size (suc count) bytes rest h =
    let one : size ≤ length bytes = omega (arith, h, suc-mul count size) in
    let others : count * size ≤ length (drop size bytes) = omega (arith, h, length-drop size bytes, suc-mul count size) in
    rw (take-append-le size bytes rest one, drop-append-le size bytes rest one, elements_in-append size count (drop size bytes) rest others) refl

-- the elements are those of the bytes that they take
pub elements_in-take : (size count : ℕ) (bytes : List ℕ) → count * size ≤ length bytes → elements_in size count (take (count * size) bytes) ≡ elements_in size count bytes
elements_in-take size count bytes h =
    let front : count * size ≤ length (take (count * size) bytes) = omega (arith, h, length-take (count * size) bytes) in
    sym (elements_in-append size count (take (count * size) bytes) (drop (count * size) bytes) front)
    ∙ ap (elements_in size count) (take-append-drop (count * size) bytes)

-- the bytes that elements take
pub take_elements : (size count : ℕ) (bytes : List ℕ) → count * size ≤ length bytes → take (count * size) bytes ≡ concat (elements_in size count bytes)
take_elements size count bytes h =
    let cut : length (take (count * size) bytes) ≡ count * size = omega (arith, h, length-take (count * size) bytes) in
    rw (← elements_in-take size count bytes h) (sym (concat-elements_in size count _ cut))

-- the same of those that begin at a place
pub take-drop_elements : (start size count : ℕ) (bytes : List ℕ) → start + count * size ≤ length bytes → take (start + count * size - start) (drop start bytes) ≡ concat (elements_in size count (drop start bytes))
take-drop_elements start size count bytes h =
    let there : count * size ≤ length (drop start bytes) = omega (arith, h, length-drop start bytes) in
    let long : start + count * size - start ≡ count * size = omega arith in
    rw long (take_elements size count (drop start bytes) there)

-- there are as many bytes
pub length-concat-elements_in : (start size count : ℕ) (bytes : List ℕ) → start + count * size ≤ length bytes → length (concat (elements_in size count (drop start bytes))) ≡ count * size
length-concat-elements_in start size count bytes h =
    let there : count * size ≤ length (drop start bytes) = omega (arith, h, length-drop start bytes) in
    rw (← take-drop_elements start size count bytes h) (omega (arith, there, length-take (start + count * size - start) (drop start bytes)))

-- the first of them are the first
pub take-elements_in : (size count n : ℕ) (bytes : List ℕ) → n ≤ count → take n (elements_in size count bytes) ≡ elements_in size n bytes
take-elements_in size count zero bytes h = refl
take-elements_in size zero (suc n) bytes h = absurd (omega (arith, h))
take-elements_in size (suc count) (suc n) bytes h =
    let less : n ≤ count = omega (arith, h) in
    rw (take-elements_in size count n (drop size bytes) less) refl

-- the bytes of the first elements
pub take_first : (size count n : ℕ) (bytes : List ℕ) → count * size ≤ length bytes → take (min count n * size) bytes ≡ concat (take n (elements_in size count bytes))
take_first size count n bytes h =
    let taken : take n (elements_in size count bytes) ≡ elements_in size (min count n) bytes =
    ⊎_elim
    (λ (less : n < count).
    let same : min count n ≡ n = omega (arith, less) in
    rw same (take-elements_in size count n bytes (omega (arith, less))))
    (λ (all : count ≤ n).
    let same : min count n ≡ count = omega (arith, all) in
    rw same (take_all n (elements_in size count bytes) (omega (arith, all, length-elements_in size count bytes))))
    (cases_lt n count) in
    let below : min count n * size ≤ count * size = mul-le-mul_right size (omega arith) in
    rw taken (take_elements size (min count n) bytes (omega (arith, h, below)))

-- each has its size, where the bytes are there
pub AreSized-elements_in : (size count : ℕ) (bytes : List ℕ) → count * size ≤ length bytes → AreSized size (elements_in size count bytes)
AreSized-elements_in size zero bytes h = tt
AreSized-elements_in size (suc count) bytes h =
    let one : length (take size bytes) ≡ size = omega (arith, h, length-take size bytes, suc-mul count size) in
    let others : count * size ≤ length (drop size bytes) = omega (arith, h, length-drop size bytes, suc-mul count size) in
    (one, AreSized-elements_in size count (drop size bytes) others)

-- the same of those that begin at a place
pub AreSized-from : (start size count : ℕ) (bytes : List ℕ) → start + count * size ≤ length bytes → AreSized size (elements_in size count (drop start bytes))
AreSized-from start size count bytes h =
    AreSized-elements_in size count (drop start bytes) (omega (arith, h, length-drop start bytes))

-- joined, elements of one size have so many bytes together
pub length-concat : (size : ℕ) (elements : List (List ℕ)) → AreSized size elements → length (concat elements) ≡ length elements * size
length-concat size [] h = omega arith
length-concat size (element ∷ elements) h =
    omega (arith, h.0, length-append element (concat elements), length-concat size elements h.1, suc-mul (length elements) size)

-- elements of zero bytes are zero bytes
pub concat-replicate : (size n : ℕ) → concat (replicate n (replicate size 0)) ≡ replicate (n * size) 0
concat-replicate size zero = rw (zero-mul size) refl
concat-replicate size (suc n) =
    rw (concat-replicate size n, replicate-append-replicate {A = ℕ} size (n * size) 0, suc-mul n size, add_comm (n * size) size) refl

pub concat-append : (xs ys : List (List ℕ)) → concat (xs ++ ys) ≡ concat xs ++ concat ys
concat-append [] ys = refl
concat-append (x ∷ xs) ys = rw (concat-append xs ys, append_assoc x (concat xs) (concat ys)) refl

-- the first of them have the size too
pub AreSized-take : (size n : ℕ) (elements : List (List ℕ)) → AreSized size elements → AreSized size (take n elements)
AreSized-take size zero elements h = tt
AreSized-take size (suc n) [] h = tt
AreSized-take size (suc n) (element ∷ elements) h = (h.0, AreSized-take size n elements h.1)

pub AreSized-append : (size : ℕ) (xs ys : List (List ℕ)) → AreSized size xs → AreSized size ys → AreSized size (xs ++ ys)
AreSized-append size [] ys none h = h
AreSized-append size (x ∷ xs) ys sized h = (sized.0, AreSized-append size xs ys sized.1 h)

-- the element at an index stands as many elements behind the first
pub get_or-elements_in : (size count i : ℕ) (bytes : List ℕ) → i < count → get_or (elements_in size count bytes) i [] ≡ take size (drop (i * size) bytes)
get_or-elements_in size zero i bytes h = absurd (omega (arith, h))
get_or-elements_in size (suc count) zero bytes h = rw (zero-mul size) refl
get_or-elements_in size (suc count) (suc i) bytes h =
    let less : i < count = omega (arith, h) in
    let moved : size + i * size ≡ suc i * size = omega (arith, suc-mul i size) in
    get_or-elements_in size count i (drop size bytes) less
    ∙ ap (take size) (drop-drop (i * size) size bytes)
    ∙ ap (λ (n : ℕ). take size (drop n bytes)) moved

-- the bytes of the element at an index
pub take_element : (size count i : ℕ) (bytes : List ℕ) → i < count → take (i * size + size - i * size) (drop (i * size) bytes) ≡ get_or (elements_in size count bytes) i []
take_element size count i bytes h =
    let one : i * size + size - i * size ≡ size = omega arith in
    rw one (sym (get_or-elements_in size count i bytes h))

-- they are there
pub element_end-le : (size count i : ℕ) (bytes : List ℕ) → count * size ≤ length bytes → i < count → i * size + size ≤ length bytes
element_end-le size count i bytes there h =
    let behind : suc i * size ≤ count * size = mul-le-mul_right size (omega (arith, h)) in
    omega (arith, there, behind, suc-mul i size)

-- as many as an element has
pub length-element : (size count i : ℕ) (bytes : List ℕ) → count * size ≤ length bytes → i < count → length (get_or (elements_in size count bytes) i []) ≡ size
length-element size count i bytes there h =
    rw (get_or-elements_in size count i bytes h)
    (omega (arith, element_end-le size count i bytes there h, length-take size (drop (i * size) bytes), length-drop (i * size) bytes))

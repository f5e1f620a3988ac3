-- Values under names that are kept as texts.
use Rattle.std.proofs.Common.{◌≡◌, ℕ, Bool, true, false, cond, ◌||◌, List, [], ◌∷◌, ◌++◌, length, suc, Option, Some, None, is_some, refl, sym, ap, subst, ◌∙◌}
use Rattle.std.specs.List.{list_any, slice_get}
use Rattle.std.specs.Option.{option_map}
use Rattle.std.proofs.lemmas.Option.{slice_get-map}
use Rattle.std.proofs.Math.Bool.{or-false}
use Rattle.std.proofs.lemmas.List.Folds.{list_any-append}
use Rattle.std.proofs.lemmas.Slice.Eq.{bytes_eq-Decides}
use Rattle.std.specs.Map.{lookup}
use Rattle.std.specs.Prelude.{bytes_eq, map, String, string_bytes, string_eq}
use Rattle.std.proofs.lemmas.List.{map-append}
use Rattle.std.specs.declared.alloc.Global.{Global}
use Rattle.indexmap.specs.IndexMap.{insert_entry}
use Rattle.pv_name.specs.Host.{lowercase}
use Rattle.access_file.specs.Groups.{is_host_listed}
use Rattle.access_file.specs.Named.{Finds, put, by_bytes, value_in}

pub lookup_by_bytes : {V : Type 0} (name : List ℕ) (es : List (String Global × V)) → lookup (bytes_eq name) (by_bytes es) ≡ lookup (λ k. bytes_eq name (string_bytes k)) es
lookup_by_bytes name [] = refl
lookup_by_bytes name (e ∷ es) = ap (λ r. cond (bytes_eq name (string_bytes e.0)) (Some e.1) r) (lookup_by_bytes name es)

pub at_by_bytes : {V : Type 0} (es : List (String Global × V)) (place : ℕ) → option_map value_in (slice_get (by_bytes es) place) ≡ option_map (λ (e : String Global × V). e.1) (slice_get es place)
at_by_bytes {V = V} es place =
    ap (option_map value_in) (slice_get-map (λ (e : String Global × V). (string_bytes e.0, e.1)) es place) ∙ both (slice_get es place)
  where
    both : (found : Option (String Global × V)) → option_map value_in (option_map (λ (e : String Global × V). (string_bytes e.0, e.1)) found) ≡ option_map (λ (e : String Global × V). e.1) found
    both None = refl
    both (Some e) = refl

pub put_by_bytes : {V : Type 0} (es : List (String Global × V)) (name : String Global) (value : V) → by_bytes (insert_entry string_eq es name value) ≡ put (by_bytes es) (string_bytes name) value
put_by_bytes [] name value = refl
put_by_bytes (e ∷ es) name value = by (bytes_eq (string_bytes name) (string_bytes e.0)) (put_by_bytes es name value)
  where
    by : (same : Bool) → by_bytes (insert_entry string_eq es name value) ≡ put (by_bytes es) (string_bytes name) value
        → by_bytes (cond same ((e.0, value) ∷ es) (e ∷ insert_entry string_eq es name value))
        ≡ cond same ((string_bytes e.0, value) ∷ by_bytes es) ((string_bytes e.0, e.1) ∷ put (by_bytes es) (string_bytes name) value)
    by true h = refl
    by false h = ap (λ x. (string_bytes e.0, e.1) ∷ x) h

pub length_by_bytes : {V : Type 0} (es : List (String Global × V)) → length (by_bytes es) ≡ length es
length_by_bytes [] = refl
length_by_bytes (e ∷ es) = ap suc (length_by_bytes es)

pub same_either_way : (a b : List ℕ) → bytes_eq a b ≡ bytes_eq b a
same_either_way a b = by (bytes_eq a b) (bytes_eq b a) refl refl
  where
    by : (s t : Bool) → bytes_eq a b ≡ s → bytes_eq b a ≡ t → s ≡ t
    by true true p q = refl
    by false false p q = refl
    by true false p q = sym ((bytes_eq-Decides b a).1 (sym ((bytes_eq-Decides a b).0 p))) ∙ q
    by false true p q = sym p ∙ (bytes_eq-Decides a b).1 (sym ((bytes_eq-Decides b a).0 q))

-- under a name that is put its value stands, and under others what stood there
pub lookup_put : {V : Type 0} (es : List (List ℕ × V)) (name : List ℕ) (value : V) (other : List ℕ)
    → lookup (bytes_eq other) (put es name value) ≡ cond (bytes_eq other name) (Some value) (lookup (bytes_eq other) es)
lookup_put [] name value other = refl
lookup_put {V = V} (e ∷ es) name value other = by (bytes_eq name e.0) refl (lookup_put es name value other)
  where
    here : (t : Bool) → bytes_eq other e.0 ≡ t → name ≡ e.0
        → cond t (Some value) (lookup (bytes_eq other) es) ≡ cond (bytes_eq other name) (Some value) (cond t (Some e.1) (lookup (bytes_eq other) es))
    here true is same = sym (ap (λ t. cond t (Some value) (Some e.1)) (ap (bytes_eq other) same ∙ is))
    here false is same = sym (ap (λ t. cond t (Some value) (lookup (bytes_eq other) es)) (ap (bytes_eq other) same ∙ is))

    behind : (t : Bool) → bytes_eq other e.0 ≡ t → bytes_eq name e.0 ≡ false → lookup (bytes_eq other) (put es name value) ≡ cond (bytes_eq other name) (Some value) (lookup (bytes_eq other) es)
        → cond t (Some e.1) (lookup (bytes_eq other) (put es name value)) ≡ cond (bytes_eq other name) (Some value) (cond t (Some e.1) (lookup (bytes_eq other) es))
    behind true is differ rest =
        let apart : bytes_eq other name ≡ false = ap (λ o. bytes_eq o name) ((bytes_eq-Decides other e.0).0 is) ∙ same_either_way e.0 name ∙ differ in
        sym (ap (λ t. cond t (Some value) (Some e.1)) apart)
    behind false is differ rest = rest

    by : (same : Bool) → bytes_eq name e.0 ≡ same → lookup (bytes_eq other) (put es name value) ≡ cond (bytes_eq other name) (Some value) (lookup (bytes_eq other) es)
        → lookup (bytes_eq other) (cond same ((e.0, value) ∷ es) (e ∷ put es name value)) ≡ cond (bytes_eq other name) (Some value) (cond (bytes_eq other e.0) (Some e.1) (lookup (bytes_eq other) es))
    by true is rest = here (bytes_eq other e.0) refl ((bytes_eq-Decides name e.0).0 is)
    by false is rest = behind (bytes_eq other e.0) refl is rest

-- beside those that had a value, the name has one
found_with : {V : Type 0} (found : List (List ℕ × V)) (name : List ℕ) (value : V) (other : List ℕ)
    → is_some (lookup (bytes_eq other) (put found name value)) ≡ (is_some (lookup (bytes_eq other) found) || bytes_eq name other)
found_with {V = V} found name value other =
    ap is_some (lookup_put found name value other)
    ∙ ap (λ t. is_some (cond t (Some value) (lookup (bytes_eq other) found))) (same_either_way other name)
    ∙ by (bytes_eq name other) (lookup (bytes_eq other) found)
  where
    by : (t : Bool) (at : Option V) → is_some (cond t (Some value) at) ≡ (is_some at || t)
    by true None = refl
    by true (Some old) = refl
    by false None = refl
    by false (Some old) = refl

pub finds_one_more : {V : Type 0} (names : List (List ℕ)) (found : List (List ℕ × V)) (name : List ℕ) (value : V) → Finds names found → Finds (names ++ name ∷ []) (put found name value)
finds_one_more names found name value finds other =
    list_any-append (λ listed. bytes_eq listed other) names (name ∷ [])
    ∙ ap (λ t. t || (bytes_eq name other || false)) (finds other)
    ∙ ap (λ t. is_some (lookup (bytes_eq other) found) || t) (or-false (bytes_eq name other))
    ∙ sym (found_with found name value other)

any_mapped : (f : List ℕ → List ℕ) (p : List ℕ → Bool) (names : List (List ℕ)) → list_any p (map f names) ≡ list_any (λ name. p (f name)) names
any_mapped f p [] = refl
any_mapped f p (name ∷ names) = ap (λ t. p (f name) || t) (any_mapped f p names)

-- a host is listed where its text in lower case is found among such
pub host_is_found : {V : Type 0} (names : List (List ℕ)) (found : List (List ℕ × V)) (host text : List ℕ) → Finds (map lowercase names) found → text ≡ lowercase host
    → is_some (lookup (bytes_eq text) found) ≡ is_host_listed names host
host_is_found names found host text finds same =
    ap (λ t. is_some (lookup (bytes_eq t) found)) same
    ∙ sym (finds (lowercase host))
    ∙ any_mapped lowercase (λ listed. bytes_eq listed (lowercase host)) names

pub finds_one_host_more : {V : Type 0} (names : List (List ℕ)) (found : List (List ℕ × V)) (name : List ℕ) (value : V) → Finds (map lowercase names) found
    → Finds (map lowercase (names ++ name ∷ [])) (put found (lowercase name) value)
finds_one_host_more names found name value finds =
    subst (λ listed. Finds listed (put found (lowercase name) value)) (sym (map-append lowercase names (name ∷ [])))
    (finds_one_more (map lowercase names) found (lowercase name) value finds)

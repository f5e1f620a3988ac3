-- Names of hosts, which are found by their addresses.
use Rattle.std.proofs.Common.{◌≡◌, ℕ, Bool, true, false, cond, List, [], ◌∷◌, ◌++◌, length, take, drop, Option, Some, None, refl, sym, ap, subst, ◌∙◌, arith}
use Rattle.std.specs.Prelude.{map, filter, bytes_eq, slice_range}
use Rattle.std.specs.Map.{lookup}
use Rattle.std.proofs.lemmas.List.{append-nil, take-append-le, drop-append-le, take-append-drop, length-append, drop_all}
use Rattle.std.proofs.lemmas.List.Elements.{filter-append}
use Rattle.std.proofs.Math.Seq.{take-append_seam}
use Rattle.std.proofs.lemmas.List.Folds.{drop_split}
use Rattle.std.proofs.lemmas.Slice.Eq.{bytes_eq-Decides}
use Rattle.pv_name.specs.Host.{lowercase, same_host}
use Rattle.access_file.specs.HostNames.{AreSpans, IsSpan, first_of, names_of, rows_of}
use Rattle.access_file.specs.Named.{put}
use Rattle.access_file.specs.declared.host_names.HostName.{HostName}
use Rattle.access_file.specs.declared.host_names.Span.{Span}
use Rattle.access_file.proofs.NamedLemmas.{lookup_put, same_either_way}

-- rows of the host in two lists
parted : (host : List ℕ) (front back : List HostName) → rows_of (front ++ back) host ≡ rows_of front host ++ rows_of back host
parted host front back = filter-append (λ (row : HostName). same_host row.address host) front back

-- all rows of the host stand in its span
pub rows_in_span : (rows : List HostName) (host : List ℕ) (span : Span) → IsSpan rows host (Some span) → rows_of (slice_range rows span.first span.end) host ≡ rows_of rows host
rows_in_span rows host span (le, (_, (before, behind))) =
    let part : List HostName = slice_range rows span.first span.end in
    let back : rows_of (drop span.first rows) host ≡ rows_of part host =
    ap (λ l. rows_of l host) (drop_split rows span.first span.end le)
    ∙ parted host part (drop span.end rows)
    ∙ ap (λ l. rows_of part host ++ l) behind
    ∙ append-nil (rows_of part host) in
    sym (ap (λ l. rows_of l host) (sym (take-append-drop span.first rows))
    ∙ parted host (take span.first rows) (drop span.first rows)
    ∙ ap (λ l. l ++ rows_of (drop span.first rows) host) before
    ∙ back)

kept_again : {X : Type 0} (p : X → Bool) (xs : List X) → filter p (filter p xs) ≡ filter p xs
kept_again p [] = refl
kept_again p (x ∷ xs) = by (p x) refl (kept_again p xs)
  where
    by : (t : Bool) → p x ≡ t → filter p (filter p xs) ≡ filter p xs → filter p (cond t (x ∷ filter p xs) (filter p xs)) ≡ cond t (x ∷ filter p xs) (filter p xs)
    by true is rest = rw is (ap (λ l. x ∷ l) rest)
    by false is rest = rest

pub names_in_span : (rows : List HostName) (host text : List ℕ) (spans : List (List ℕ × Span)) (span : Span) (part : List HostName)
    → AreSpans rows spans → text ≡ lowercase host → Some span ≡ lookup (bytes_eq text) spans → part ≡ slice_range rows span.first span.end → names_of part host ≡ names_of rows host
names_in_span rows host text spans span part are same found is =
    let at : lookup (bytes_eq (lowercase host)) spans ≡ Some span = ap (λ t. lookup (bytes_eq t) spans) (sym same) ∙ sym found in
    ap (λ l. names_of l host) is
    ∙ ap (map (λ (row : HostName). row.name)) (rows_in_span rows host span (subst (IsSpan rows host) at (are host)))

pub no_names : (rows : List HostName) (host text : List ℕ) (spans : List (List ℕ × Span)) → AreSpans rows spans → text ≡ lowercase host → None ≡ lookup (bytes_eq text) spans → [] ≡ names_of rows host
no_names rows host text spans are same found =
    let at : lookup (bytes_eq (lowercase host)) spans ≡ None = ap (λ t. lookup (bytes_eq t) spans) (sym same) ∙ sym found in
    sym (ap (map (λ (row : HostName). row.name)) (subst (IsSpan rows host) at (are host)))

module _ (rows : List HostName) (row : HostName) where
  -- a host whose row came
  grown : (host : List ℕ) (at : Option Span) (first : ℕ) → IsSpan rows host at → first ≡ first_of (length rows) at → IsSpan (rows ++ row ∷ []) host (Some (record { first = first; end = length (rows ++ row ∷ []) }))
  grown host None first none is = (
    omega (arith, is, length-append rows (row ∷ [])),
    (
      omega arith,
      (
        ap (λ n. rows_of (take n (rows ++ row ∷ [])) host) is ∙ ap (λ l. rows_of l host) (take-append_seam rows (row ∷ [])) ∙ none,
        ap (λ l. rows_of l host) (drop_all (length (rows ++ row ∷ [])) (rows ++ row ∷ []) (omega arith)),
      ),
    ),
  )
  grown host (Some span) first (le, (within, (before, behind))) is = (
    omega (arith, is, le, within, length-append rows (row ∷ [])),
    (
      omega arith,
      (
        ap (λ n. rows_of (take n (rows ++ row ∷ [])) host) is ∙ ap (λ l. rows_of l host) (take-append-le span.first rows (row ∷ []) (omega (arith, le, within))) ∙ before,
        ap (λ l. rows_of l host) (drop_all (length (rows ++ row ∷ [])) (rows ++ row ∷ []) (omega arith)),
      ),
    ),
  )

  -- another one
  unspoken : (host : List ℕ) (at : Option Span) → rows_of (row ∷ []) host ≡ [] → IsSpan rows host at → IsSpan (rows ++ row ∷ []) host at
  unspoken host None other none = parted host rows (row ∷ []) ∙ ap (λ l. l ++ rows_of (row ∷ []) host) none ∙ other
  unspoken host (Some span) other (le, (within, (before, behind))) = (
    le,
    (
      omega (arith, within, length-append rows (row ∷ [])),
      (
        ap (λ l. rows_of l host) (take-append-le span.first rows (row ∷ []) (omega (arith, le, within))) ∙ before,
        ap (λ l. rows_of l host) (drop-append-le span.end rows (row ∷ []) within)
            ∙ parted host (drop span.end rows) (row ∷ [])
            ∙ ap (λ l. l ++ rows_of (row ∷ []) host) behind
            ∙ other,
      ),
    ),
  )

-- where a row comes, its address has a span up to it
pub one_span_more : (rows : List HostName) (spans : List (List ℕ × Span)) (row : HostName) (first : ℕ) → AreSpans rows spans → first ≡ first_of (length rows) (lookup (bytes_eq (lowercase row.address)) spans)
    → AreSpans (rows ++ row ∷ []) (put spans (lowercase row.address) (record { first = first; end = length (rows ++ row ∷ []) }))
one_span_more rows spans row first are is host =
    subst (IsSpan (rows ++ row ∷ []) host) (sym (lookup_put spans key new (lowercase host))) (by (bytes_eq (lowercase host) key) refl)
  where
    key : List ℕ
    key = lowercase row.address

    new : Span
    new = record { first = first; end = length (rows ++ row ∷ []) }

    by : (t : Bool) → bytes_eq (lowercase host) key ≡ t → IsSpan (rows ++ row ∷ []) host (cond t (Some new) (lookup (bytes_eq (lowercase host)) spans))
    by true same =
        let at : lowercase host ≡ key = (bytes_eq-Decides (lowercase host) key).0 same in
        grown rows row host (lookup (bytes_eq key) spans) first (subst (λ t. IsSpan rows host (lookup (bytes_eq t) spans)) at (are host)) is
    by false differ =
        unspoken rows row host (lookup (bytes_eq (lowercase host)) spans) (ap (λ t. cond t (row ∷ []) []) (same_either_way key (lowercase host) ∙ differ)) (are host)

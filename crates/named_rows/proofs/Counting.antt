-- What rows ask for, counted: as one row of a list comes, goes or changes.
use Rattle.std.proofs.Common.{◌≡◌, ℕ, List, [], ◌∷◌, ◌++◌, Bool, true, false, cond, not, ◌||◌, append-nil, Option, Some, None, map, refl, sym, ap, ◌∙◌, true≢false}
use Rattle.std.specs.List.{filter, find, list_any}
use Rattle.std.proofs.lemmas.List.Elements.{filter-append}
use Rattle.std.proofs.lemmas.List.{append_assoc, map-append}
use Rattle.mask_merge.specs.declared.want.Ask.{Ask}
use Rattle.mask_merge.specs.Counts.{Counts, nothing_counted, counted, counted_with, counted_without, exchanged}
use Rattle.mask_merge.proofs.CountLemmas.{with_middle, without_middle, exchanged_middle}
use Rattle.rows.specs.Rows.{change_first}
use Rattle.row_index.specs.declared.key.Key.{Key}
use Rattle.row_index.specs.Rows.{same_key}
use Rattle.row_index.proofs.Keys.{same_key_is_same}
use Rattle.named_rows.specs.declared.subs.ClientSub.{ClientSub}
use Rattle.named_rows.specs.Indexes.{IsApart}
use Rattle.named_rows.specs.Subs.{is_sub_on}
use Rattle.named_rows.specs.Demand.{IsCount, all_exchanged, ask_of_sub, exchanged_on}
use Rattle.named_rows.proofs.Keyed.{value_at_keyed}
use Rattle.named_rows.proofs.Lists.{none_dropped, unfound_is_absent}

-- the rows before and behind the one of a key
pub record Between {V : Type 0} (key : V → Key) (k : Key) (rows : List V) (row : V) : Type 0 where
  pub before : List V
  pub behind : List V
  pub all : rows ≡ before ++ row ∷ behind
  pub others : filter (λ r. not (same_key (key r) k)) rows ≡ before ++ behind
  pub changed : (f : V → V) → change_first (λ r. same_key (key r) k) f rows ≡ before ++ f row ∷ behind

module _ {V : Type 0} (key : V → Key) (k : Key) where
  first_between : (first : V) (rows : List V) (row : V) → IsApart key (first ∷ rows) → same_key (key first) k ≡ true → first ≡ row → Between key k (first ∷ rows) row
  first_between first rows row apart here is =
      let same = same_key_is_same (key first) k here in
      let none : find (λ r. same_key (key r) k) rows ≡ None = rw (← same) (sym (value_at_keyed key (key first) rows) ∙ apart.0) in
      record {
        before = [];
        behind = rows;
        all = ap (λ r. r ∷ rows) is;
        others = rw here (none_dropped (λ r. same_key (key r) k) rows (unfound_is_absent (λ r. same_key (key r) k) rows none));
        changed = λ f. rw here (ap (λ r. f r ∷ rows) is);
      }

  later_between : (first : V) (rows : List V) (row : V) → same_key (key first) k ≡ false → Between key k rows row → Between key k (first ∷ rows) row
  later_between first rows row other b = record {
    before = first ∷ b.before;
    behind = b.behind;
    all = ap (λ rest. first ∷ rest) b.all;
    others = rw other (ap (λ rest. first ∷ rest) b.others);
    changed = λ f. rw other (ap (λ rest. first ∷ rest) (b.changed f));
  }

  -- where keys are apart, the row of a key stands between others
  pub between : (rows : List V) (row : V) → IsApart key rows → find (λ r. same_key (key r) k) rows ≡ Some row → Between key k rows row
  between [] row apart found = cc
  between (first ∷ rows) row apart found =
      elim (same_key (key first) k) as (λ t. same_key (key first) k ≡ t → cond t (Some first) (find (λ r. same_key (key r) k) rows) ≡ Some row → Between key k (first ∷ rows) row) [
        | true ↦ λ here h. first_between first rows row apart here cc
        | false ↦ λ other h. later_between first rows row other (between rows row apart.1 h)
      ] refl found

-- what the rows that pass a test ask for, with other asks before and behind
module _ {V : Type 0} (f : V → Option Ask) (p : V → Bool) (some more : List (Option Ask)) where
  abbrev pub asks : List V → List (Option Ask)
  asks rows = some ++ (map f (filter p rows) ++ more)

  asks_apart : (xs ys : List V) → asks (xs ++ ys) ≡ (some ++ map f (filter p xs)) ++ (map f (filter p ys) ++ more)
  asks_apart xs ys =
      rw (filter-append p xs ys, map-append f (filter p xs) (filter p ys), append_assoc (map f (filter p xs)) (map f (filter p ys)) more)
      (sym (append_assoc some (map f (filter p xs)) (map f (filter p ys) ++ more)))

  asks_around : (xs : List V) (row : V) (ys : List V) → p row ≡ true → asks (xs ++ row ∷ ys) ≡ (some ++ map f (filter p xs)) ++ f row ∷ (map f (filter p ys) ++ more)
  asks_around xs row ys passes = asks_apart xs (row ∷ ys) ∙ rw passes refl

  -- one row more
  pub counted_more : (xs : List V) (row : V) (ys : List V) → p row ≡ true → counted (asks (xs ++ row ∷ ys)) ≡ counted_with (f row) (counted (asks (xs ++ ys)))
  counted_more xs row ys passes =
      ap counted (asks_around xs row ys passes)
      ∙ with_middle (some ++ map f (filter p xs)) (f row) (map f (filter p ys) ++ more)
      ∙ ap (λ a. counted_with (f row) (counted a)) (sym (asks_apart xs ys))

  -- one row less
  pub counted_less : (xs : List V) (row : V) (ys : List V) → p row ≡ true → counted_without (f row) (counted (asks (xs ++ row ∷ ys))) ≡ counted (asks (xs ++ ys))
  counted_less xs row ys passes =
      ap (λ a. counted_without (f row) (counted a)) (asks_around xs row ys passes)
      ∙ without_middle (some ++ map f (filter p xs)) (f row) (map f (filter p ys) ++ more)
      ∙ ap counted (sym (asks_apart xs ys))

  -- another row in its place
  pub counted_changed : (xs : List V) (row other : V) (ys : List V) → p row ≡ true → p other ≡ true → exchanged (f row) (f other) (counted (asks (xs ++ row ∷ ys))) ≡ counted (asks (xs ++ other ∷ ys))
  counted_changed xs row other ys passes stays =
      ap (λ a. exchanged (f row) (f other) (counted a)) (asks_around xs row ys passes)
      ∙ exchanged_middle (f row) (f other) (some ++ map f (filter p xs)) (map f (filter p ys) ++ more)
      ∙ ap counted (sym (asks_around xs other ys stays))

  -- a row that doesn't pass asks for nothing
  pub asks_beside : (xs : List V) (row : V) (ys : List V) → p row ≡ false → asks (xs ++ row ∷ ys) ≡ asks (xs ++ ys)
  asks_beside xs row ys fails = asks_apart xs (row ∷ ys) ∙ rw fails (sym (asks_apart xs ys))

-- tests and asks that agree on the rows that pass
pub asks_agree : {V : Type 0} (f g : V → Option Ask) (p : V → Bool) (rows : List V) → ((row : V) → p row ≡ true → f row ≡ g row) → map f (filter p rows) ≡ map g (filter p rows)
asks_agree f g p [] agree = refl
asks_agree f g p (row ∷ rows) agree =
    elim (p row) as (λ t. p row ≡ t → map f (cond t (row ∷ filter p rows) (filter p rows)) ≡ map g (cond t (row ∷ filter p rows) (filter p rows))) [
      | true ↦ λ here. let first = agree row here in let rest = asks_agree f g p rows agree in (λ i. first i ∷ rest i)
      | false ↦ λ _. asks_agree f g p rows agree
    ] refl

-- subscriptions on one channel ask for something else, one after the other
module _ (f g : ClientSub → Option Ask) (before after : Bool) (session sid : ℕ)
    (on : (sub : ClientSub) → is_sub_on session sid sub ≡ true → (f sub ≡ ask_of_sub before sub) × (g sub ≡ ask_of_sub after sub)) where
  one_exchanged : (sub : ClientSub) (xs ys : List (Option Ask)) → (is_sub_on session sid sub ≡ false → f sub ≡ g sub) → exchanged_on before after session sid sub (counted (xs ++ f sub ∷ ys)) ≡ counted (xs ++ g sub ∷ ys)
  one_exchanged sub xs ys beside =
      elim (is_sub_on session sid sub) as (λ t. is_sub_on session sid sub ≡ t → cond t (exchanged (ask_of_sub before sub) (ask_of_sub after sub) (counted (xs ++ f sub ∷ ys))) (counted (xs ++ f sub ∷ ys)) ≡ counted (xs ++ g sub ∷ ys)) [
        | true ↦ λ here. rw ((on sub here).0, (on sub here).1) (exchanged_middle (ask_of_sub before sub) (ask_of_sub after sub) xs ys)
        | false ↦ λ other. ap (λ a. counted (xs ++ a ∷ ys)) (beside other)
      ] refl

  pub subs_exchanged : (some : List (Option Ask)) (subs : List ClientSub) (more : List (Option Ask)) → ((sub : ClientSub) → is_sub_on session sid sub ≡ false → f sub ≡ g sub)
      → all_exchanged before after session sid subs (counted (some ++ (map f subs ++ more))) ≡ counted (some ++ (map g subs ++ more))
  subs_exchanged some [] more beside = refl
  subs_exchanged some (sub ∷ subs) more beside =
      ap (all_exchanged before after session sid subs) (one_exchanged sub some (map f subs ++ more) (beside sub) ∙ ap counted (sym (append_assoc some (g sub ∷ []) (map f subs ++ more))))
      ∙ subs_exchanged (some ++ g sub ∷ []) subs more beside
      ∙ ap counted (append_assoc some (g sub ∷ []) (map g subs ++ more))

-- of subscriptions among which those on the channel are, the others count for nothing
pub exchanged_among : (before after : Bool) (session sid : ℕ) (p : ClientSub → Bool) → ((sub : ClientSub) → is_sub_on session sid sub ≡ true → p sub ≡ true) → (subs : List ClientSub) (counts : Counts) → all_exchanged before after session sid (filter p subs) counts ≡ all_exchanged before after session sid subs counts
exchanged_among before after session sid p among [] counts = refl
exchanged_among before after session sid p among (sub ∷ subs) counts =
    elim (p sub) as (λ t. p sub ≡ t → all_exchanged before after session sid (cond t (sub ∷ filter p subs) (filter p subs)) counts ≡ all_exchanged before after session sid subs (exchanged_on before after session sid sub counts)) [
      | true ↦ λ _. exchanged_among before after session sid p among subs (exchanged_on before after session sid sub counts)
      | false ↦ λ out.
          elim (is_sub_on session sid sub) as (λ t. is_sub_on session sid sub ≡ t → all_exchanged before after session sid (filter p subs) counts ≡ all_exchanged before after session sid subs (cond t (exchanged (ask_of_sub before sub) (ask_of_sub after sub) counts) counts)) [
            | true ↦ λ on. absurd (true≢false (sym (among sub on) ∙ out))
            | false ↦ λ _. exchanged_among before after session sid p among subs counts
          ] refl
    ] refl

-- where nothing is counted, nobody asks for something else
exchanged_on_nothing : (before after : Bool) (session sid : ℕ) (sub : ClientSub) → exchanged_on before after session sid sub nothing_counted ≡ nothing_counted
exchanged_on_nothing before after session sid sub =
    elim (is_sub_on session sid sub) as (λ t. cond t (exchanged (ask_of_sub before sub) (ask_of_sub after sub) nothing_counted) nothing_counted ≡ nothing_counted) [
      | true ↦ (elim before as (λ t. exchanged (ask_of_sub t sub) (ask_of_sub after sub) nothing_counted ≡ nothing_counted) [ true ↦ refl | false ↦ refl ])
      | false ↦ refl
    ]

pub all_exchanged_of_nothing : (before after : Bool) (session sid : ℕ) (subs : List ClientSub) → all_exchanged before after session sid subs nothing_counted ≡ nothing_counted
all_exchanged_of_nothing before after session sid [] = refl
all_exchanged_of_nothing before after session sid (sub ∷ subs) =
    ap (all_exchanged before after session sid subs) (exchanged_on_nothing before after session sid sub) ∙ all_exchanged_of_nothing before after session sid subs

-- what is counted, and counted no longer
pub with_undone : (ask : Option Ask) (counts : Counts) → IsCount counts → counted_without ask (counted_with ask counts) ≡ counts
with_undone ask counts count = ap (λ c. counted_without ask (counted_with ask c)) count.is ∙ without_middle [] ask count.asks ∙ sym count.is

-- a row behind all others is the one that is found, and the one that goes
pub last_is_found : {A : Type 0} (p : A → Bool) (xs : List A) (x : A) → list_any p xs ≡ false → p x ≡ true → find p (xs ++ x ∷ []) ≡ Some x
last_is_found p [] x none last = rw last refl
last_is_found p (y ∷ ys) x none last =
    elim (p y) as (λ t. (t || list_any p ys) ≡ false → cond t (Some y) (find p (ys ++ x ∷ [])) ≡ Some x) [ true ↦ λ h. cc | false ↦ λ h. last_is_found p ys x h last ] none

pub last_goes : {A : Type 0} (p : A → Bool) (xs : List A) (x : A) → list_any p xs ≡ false → p x ≡ true → filter (λ y. not (p y)) (xs ++ x ∷ []) ≡ xs
last_goes p xs x none last = filter-append (λ y. not (p y)) xs (x ∷ []) ∙ rw last (append-nil (filter (λ y. not (p y)) xs) ∙ none_dropped p xs none)

-- What is had where what is held of one link changed: nothing more without its properties, and of other links the same.
use Rattle.std.proofs.Common.{◌≡◌, ℕ, List, [], ◌∷◌, length, Bool, true, false, cond, eqb, not, ◌&&◌, ◌||◌, Option, Some, None, refl, sym, ap, ◌∙◌}
use Rattle.std.specs.Prelude.{Result, nat_le, ok_or, option_map, unwrap_or}
use Rattle.std.specs.List.{find}
use Rattle.std.proofs.lemmas.Bool.{eqb-false, eqb-true, ne_eqb}
use Rattle.rows.specs.Rows.{change_first}
use Rattle.dbr_layout.specs.declared.fault.LayoutFault.{LayoutFault}
use Rattle.dbr_layout.specs.declared.fault.LayoutFault.TheVariants.{BadType}
use Rattle.dbr_layout.specs.Conversion.{given_count}
use Rattle.dbr_layout.specs.Converted.{written}
use Rattle.dbr_layout.specs.Dbr.{dbr_of}
use Rattle.dbr_layout.specs.Fault.{◌>>=◌}
use Rattle.dbr_layout.specs.Needs.{needs}
use Rattle.dbr_layout.specs.Properties.{Properties}
use Rattle.dbr_layout.specs.View.{Shown}
use Rattle.value_cache.specs.Held.{Held, Value, answer_of, are_there, covers_by, given, laid_out, needs_by}
use Rattle.gateway_state.specs.declared.cached.LastMessage.{LastMessage}
use Rattle.gateway_state.specs.Answer.{cached_as, given_in, meant_count}
use Rattle.gateway_state.specs.CachedRows.{is_cached_of, put_row, without_told}

-- ---- properties that aren't needed aren't looked at

alike_where : {A B : Type 0} (test : A → Bool) (f g : A → Result B LayoutFault) → ((asked : A) → test asked ≡ false → f asked ≡ g asked)
    → (found : Option A) → unwrap_or (option_map test found) false ≡ false → (ok_or found BadType >>= f) ≡ (ok_or found BadType >>= g)
alike_where test f g alike None fails = refl
alike_where test f g alike (Some asked) fails = alike asked fails

written_without : (seen : Shown) (told : Option Properties) (dtype count : ℕ) → needs_by seen.dbr.base dtype ≡ false → written seen told dtype count ≡ written seen None dtype count
written_without seen told dtype count fails = alike_where (needs seen.dbr.base) _ _ (λ asked unneeded. rw unneeded refl) (dbr_of dtype) fails

-- so without them no more is had of a link
had_without : (native dtype count : ℕ) (row : LastMessage) → cached_as native dtype count (Some row) ≡ None → cached_as native dtype count (Some (without_told row)) ≡ None
had_without native dtype count row none = by row.held.value none
  where
    told : Option Properties
    told = row.held.properties

    over : (value : Value) (within needed : Bool) → needs_by value.shown.dbr.base dtype ≡ needed
        → cond (within && (not needed || are_there value.shown.dbr.base told)) (given_in (given dtype count told value.shown)) None ≡ None
        → cond (within && (not needed || false)) (given_in (given dtype count None value.shown)) None ≡ None
    over value false needed is none = refl
    over value true true is none = refl
    over value true false is none =
        let same = written_without value.shown told dtype count is in
        ap (λ (payload : Result (List ℕ) LayoutFault). given_in (laid_out (given_count count (length value.shown.parts.elements)) payload)) (sym same) ∙ none

    by : (value : Option Value) → cond (covers_by dtype (meant_count native count) told value) (given_in (answer_of dtype count told value)) None ≡ None
        → cond (covers_by dtype (meant_count native count) None value) (given_in (answer_of dtype count None value)) None ≡ None
    by None none = refl
    by (Some value) none = over value (nat_le (meant_count native count) value.asked_with) (needs_by value.shown.dbr.base dtype) refl none

-- nor of any other
pub less_told : (cid of native dtype count : ℕ) (rows : List LastMessage) → cached_as native dtype count (find (is_cached_of of) rows) ≡ None
    → cached_as native dtype count (find (is_cached_of of) (change_first (is_cached_of cid) without_told rows)) ≡ None
less_told cid of native dtype count [] none = none
less_told cid of native dtype count (row ∷ rows) none = by (is_cached_of cid row) (less_told cid of native dtype count rows)
  where
    left : List LastMessage
    left = change_first (is_cached_of cid) without_told rows

    here : (sought : Bool) → cached_as native dtype count (cond sought (Some row) (find (is_cached_of of) rows)) ≡ None
        → cached_as native dtype count (cond sought (Some (without_told row)) (find (is_cached_of of) rows)) ≡ None
    here true none = had_without native dtype count row none
    here false none = none

    later : (sought : Bool) → cached_as native dtype count (cond sought (Some row) (find (is_cached_of of) rows)) ≡ None
        → (cached_as native dtype count (find (is_cached_of of) rows) ≡ None → cached_as native dtype count (find (is_cached_of of) left) ≡ None)
        → cached_as native dtype count (cond sought (Some row) (find (is_cached_of of) left)) ≡ None
    later true none rest = none
    later false none rest = rest none

    by : (is : Bool) → (cached_as native dtype count (find (is_cached_of of) rows) ≡ None → cached_as native dtype count (find (is_cached_of of) left) ≡ None)
        → cached_as native dtype count (find (is_cached_of of) (cond is (without_told row ∷ rows) (row ∷ left))) ≡ None
    by true rest = here (is_cached_of of row) none
    by false rest = later (is_cached_of of row) none rest

-- ---- what is held of other links

pub put_beside : (server cid : ℕ) (change : Held → Held) (other : ℕ) (rows : List LastMessage) → eqb other cid ≡ false
    → find (is_cached_of other) (put_row server cid change rows) ≡ find (is_cached_of other) rows
put_beside server cid change other [] differ = rw (ne_eqb cid other (λ same. eqb-false other cid differ (sym same))) refl
put_beside server cid change other (row ∷ rows) differ = by (is_cached_of cid row) refl (put_beside server cid change other rows differ)
  where
    unsought : is_cached_of cid row ≡ true → is_cached_of other row ≡ false
    unsought here = ne_eqb row.cid other (λ same. eqb-false other cid differ (sym same ∙ eqb-true row.cid cid here))

    by : (is : Bool) → is_cached_of cid row ≡ is → find (is_cached_of other) (put_row server cid change rows) ≡ find (is_cached_of other) rows
        → find (is_cached_of other) (cond is (record row { held = change row.held } ∷ rows) (row ∷ put_row server cid change rows)) ≡ find (is_cached_of other) (row ∷ rows)
    by true is rest = rw (unsought is) refl
    by false is rest = ap (λ (found : Option LastMessage). cond (is_cached_of other row) (Some row) found) rest

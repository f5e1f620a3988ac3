-- Which names are among those to ask servers for.
use Rattle.std.proofs.Common.{◌≡◌, ℕ, List, [], ◌∷◌, Bool, true, false, cond, not, ◌&&◌, ◌||◌, refl, sym, ap, ◌∙◌}
use Rattle.std.specs.declared.cmp.Ordering.{Ordering}
use Rattle.std.specs.declared.cmp.Ordering.TheVariants.{Less, Equal, Greater}
use Rattle.std.specs.Cmp.Lexicographic.{slice_cmp}
use Rattle.std.specs.List.{list_any}
use Rattle.std.specs.Ordering.{is_eq, nat_cmp}
use Rattle.std.specs.Prelude.{bytes_eq, fold}
use Rattle.std.proofs.lemmas.List.Folds.{list_any-append}
use Rattle.std.proofs.lemmas.Map.Text.{is_eq-slice_cmp}
use Rattle.std.proofs.lemmas.Slice.Eq.{bytes_eq-Decides}
use Rattle.named_rows.specs.declared.channels.Channel.{Channel}
use Rattle.named_rows.specs.Channels.{is_on}
use Rattle.gateway_state.specs.Gateway.{Gateway}
use Rattle.gateway_state.specs.Variables.{asks, channel_names, is_among, is_linked, is_missing, is_unlinked, is_wanted, search_names, wanted_names, with_name, with_unlinked}
use Rattle.gateway_state.proofs.SearchedNames.{searched_is_among}

pub twice : (a b : Bool) → (a || b) ≡ (a || (a || b))
twice true b = refl
twice false b = refl

pub over : (a b c : Bool) → (a || (b || c)) ≡ (b || (a || c))
over true true c = refl
over true false c = refl
over false true c = refl
over false false c = refl

pub or_none : (a : Bool) → a ≡ (a || false)
or_none true = refl
or_none false = refl

shared : (a b c u : Bool) → ((a || (b && u)) || (c && u)) ≡ (a || ((b || c) && u))
shared true b c u = refl
shared false true true true = refl
shared false true false true = refl
shared false true true false = refl
shared false true false false = refl
shared false false c u = refl

-- names that compare as equal are the same
same_if_equal : (a b : List ℕ) → slice_cmp nat_cmp a b ≡ Equal → a ≡ b
same_if_equal a b equal = (bytes_eq-Decides a b).0 (sym (is_eq-slice_cmp a b) ∙ ap is_eq equal)

pub among_with_name : (name : List ℕ) (names : List (List ℕ)) (x : List ℕ) → is_among (with_name name names) x ≡ (bytes_eq name x || is_among names x)
among_with_name name [] x = refl
among_with_name name (first ∷ names) x = by (slice_cmp nat_cmp name first) refl (among_with_name name names x)
  where
    by : (o : Ordering) → slice_cmp nat_cmp name first ≡ o → is_among (with_name name names) x ≡ (bytes_eq name x || is_among names x)
        → is_among (elim o [ Less ↦ name ∷ first ∷ names | Equal ↦ first ∷ names | Greater ↦ first ∷ with_name name names ]) x ≡ (bytes_eq name x || (bytes_eq first x || is_among names x))
    by Less is rest = refl
    by Equal is rest =
        ap (λ (n : List ℕ). bytes_eq n x || is_among names x) (sym (same_if_equal name first is))
        ∙ twice (bytes_eq name x) (is_among names x)
        ∙ ap (λ (n : List ℕ). bytes_eq name x || (bytes_eq n x || is_among names x)) (same_if_equal name first is)
    by Greater is rest = ap (λ (t : Bool). bytes_eq first x || t) rest ∙ over (bytes_eq first x) (bytes_eq name x) (is_among names x)

-- a name is tested, or another: the test answers the same where they are the same
pub tested_same : (test : List ℕ → Bool) (name x : List ℕ) → (bytes_eq name x && test name) ≡ (bytes_eq name x && test x)
tested_same test name x = by (bytes_eq name x) refl
  where
    by : (t : Bool) → bytes_eq name x ≡ t → (t && test name) ≡ (t && test x)
    by true is = ap test ((bytes_eq-Decides name x).0 is)
    by false is = refl

among_with_unlinked : (w : Gateway) (names : List (List ℕ)) (name x : List ℕ) → is_among (with_unlinked w names name) x ≡ (is_among names x || (bytes_eq name x && is_unlinked w x))
among_with_unlinked w names name x = by (is_unlinked w name) ∙ ap (λ (t : Bool). is_among names x || t) (tested_same (is_unlinked w) name x)
  where
    or_first : (a b : Bool) → (a || b) ≡ (b || (a && true))
    or_first true true = refl
    or_first true false = refl
    or_first false b = or_none b

    or_last : (a b : Bool) → b ≡ (b || (a && false))
    or_last true b = or_none b
    or_last false b = or_none b

    by : (new : Bool) → is_among (cond new (with_name name names) names) x ≡ (is_among names x || (bytes_eq name x && new))
    by true = among_with_name name names x ∙ or_first (bytes_eq name x) (is_among names x)
    by false = or_last (bytes_eq name x) (is_among names x)

-- those of some names that have no link are added
pub among_unlinked : (w : Gateway) (before names : List (List ℕ)) (x : List ℕ) → is_among (fold (with_unlinked w) before names) x ≡ (is_among before x || (is_among names x && is_unlinked w x))
among_unlinked w before [] x = or_none (is_among before x)
among_unlinked w before (name ∷ names) x =
    among_unlinked w (with_unlinked w before name) names x
    ∙ ap (λ (t : Bool). t || (is_among names x && is_unlinked w x)) (among_with_unlinked w before name x)
    ∙ shared (is_among before x) (bytes_eq name x) (is_among names x) (is_unlinked w x)

among_channels : (channels : List Channel) (x : List ℕ) → is_among (channel_names channels) x ≡ list_any (is_on x) channels
among_channels [] x = refl
among_channels (c ∷ channels) x = ap (λ (t : Bool). bytes_eq c.real x || t) (among_channels channels x)

among_wanted : (w : Gateway) (x : List ℕ) → is_among (wanted_names w) x ≡ is_wanted w x
among_wanted w x =
    list_any-append (λ (n : List ℕ). bytes_eq n x) (channel_names w.clients.channels) (search_names w.policy w.searches)
    ∙ ap (λ (t : Bool). t || is_among (search_names w.policy w.searches) x) (among_channels w.clients.channels x)
    ∙ ap (λ (t : Bool). list_any (is_on x) w.clients.channels || t) (sym (searched_is_among w.policy x w.searches))

-- the names to ask servers for are those that are missing
pub asks_missing : (w : Gateway) (x : List ℕ) → is_among (asks w) x ≡ is_missing w x
asks_missing w x = among_unlinked w [] (wanted_names w) x ∙ ap (λ (t : Bool). t && not (is_linked w x)) (among_wanted w x)

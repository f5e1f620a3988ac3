-- Rows that name a channel, and whether it stands.
use Rattle.std.proofs.Common.{◌≡◌, ℕ, List, [], ◌∷◌, ◌++◌, Bool, true, eqb, ◌&&◌, refl, ap, ◌∙◌}
use Rattle.std.specs.Prelude.{filter}
use Rattle.std.specs.List.{list_all, list_any}
use Rattle.std.proofs.lemmas.Bool.{and_parts, eqb-true}
use Rattle.std.proofs.lemmas.List.Folds.{list_any-append}
use Rattle.rows.specs.Rows.{change_first}
use Rattle.named_rows.specs.declared.channels.Channel.{Channel}
use Rattle.named_rows.specs.declared.channels.Reach.{Reach}
use Rattle.named_rows.specs.Channels.{is_channel, is_channel_of, with_reach_and_rights}
use Rattle.gateway_state.proofs.RowTests.{all_left, all_weaker, any_changed, any_filtered}

-- by the session and the SID that a row names
module _ {A : Type 0} (session_in sid_in : A → ℕ) where
  abbrev pub stands : List Channel → A → Bool
  stands channels row = list_any (is_channel (session_in row) (sid_in row)) channels

  -- rows that stay only where their channels do
  pub on_left : (channels : List Channel) (stays : Channel → Bool) (kept : A → Bool) (rows : List A)
      → ((row : A) (c : Channel) → kept row ≡ true → is_channel (session_in row) (sid_in row) c ≡ true → stays c ≡ true)
      → list_all (stands channels) rows ≡ true → list_all (stands (filter stays channels)) (filter kept rows) ≡ true
  on_left channels stays kept rows both all =
      all_left (stands channels) (stands (filter stays channels)) kept rows
      (λ row is there. any_filtered (is_channel (session_in row) (sid_in row)) stays channels (λ c same. both row c is same) there) all

  -- a channel has the session and the SID that a row on it names
  pub same_channel : (row : A) (c : Channel) (session sid : ℕ) → is_channel (session_in row) (sid_in row) c ≡ true
      → is_channel session sid c ≡ (eqb (session_in row) session && eqb (sid_in row) sid)
  same_channel row c session sid is =
      let parts = and_parts (eqb c.session (session_in row)) (eqb c.sid (sid_in row)) is in
      let sessions = eqb-true c.session (session_in row) parts.0 in
      let sids = eqb-true c.sid (sid_in row) parts.1 in
      λ i. eqb (sessions i) session && eqb (sids i) sid

  pub same_session : (row : A) (c : Channel) (session : ℕ) → is_channel (session_in row) (sid_in row) c ≡ true → is_channel_of session c ≡ eqb (session_in row) session
  same_session row c session is =
      let parts = and_parts (eqb c.session (session_in row)) (eqb c.sid (sid_in row)) is in
      ap (λ (number : ℕ). eqb number session) (eqb-true c.session (session_in row) parts.0)

  pub on_more : (channels : List Channel) (new : Channel) (rows : List A) → list_all (stands channels) rows ≡ true → list_all (stands (channels ++ new ∷ [])) rows ≡ true
  on_more channels new rows on =
      all_weaker (stands channels) (stands (channels ++ new ∷ [])) rows
      (λ row there. list_any-append (is_channel (session_in row) (sid_in row)) channels (new ∷ []) ∙ rw there refl) on

  pub on_changed : (channels : List Channel) (session sid : ℕ) (reach : Reach) (rights : ℕ) (rows : List A) → list_all (stands channels) rows ≡ true
      → list_all (stands (change_first (is_channel session sid) (with_reach_and_rights reach rights) channels)) rows ≡ true
  on_changed channels session sid reach rights rows on =
      all_weaker (stands channels) (stands (change_first (is_channel session sid) (with_reach_and_rights reach rights) channels)) rows
      (λ row there. any_changed (is_channel (session_in row) (sid_in row)) (is_channel session sid) (with_reach_and_rights reach rights) channels (λ c. refl) ∙ there) on

-- Messages that are taken and dropped.
use Rattle.std.proofs.Common.{◌≡◌, ℕ, ◌<◌, List, [], ◌∷◌, ◌++◌, inl, inr, refl, sym, ap, subst, ◌∙◌}
use Rattle.std.proofs.lemmas.List.{append-nil, append_assoc}
use Rattle.fanout.specs.declared.outbox.Out.{Out}
use Rattle.gateway_state.specs.declared.event.Dest.{Dest}
use Rattle.board_rings.specs.Rings.{OutletState}
use Rattle.board_rings.specs.Told.{name_of, TimesTold}
use Rattle.session_worker.specs.Sending.{IsDropped}

-- messages were taken, and the writer was told nothing
pub record Drops (old new : OutletState) : Type 0 where
  pub outs : List Out
  pub taken : new.taken ≡ old.taken ++ outs
  pub ring : new.ring ≡ old.ring
  pub stops : new.stops ≡ old.stops
  pub ends : new.ends ≡ old.ends

pub drops_none : (now : OutletState) → Drops now now
drops_none now = record { outs = []; taken = sym (append-nil now.taken); ring = refl; stops = refl; ends = refl }

pub drops_more : (old now new : OutletState) (out : Out) → Drops old now → new.taken ≡ now.taken ++ out ∷ [] → new.ring ≡ now.ring → new.stops ≡ now.stops → new.ends ≡ now.ends → Drops old new
drops_more old now new out so_far taken ring stops ends = record {
  outs = so_far.outs ++ out ∷ [];
  taken = taken ∙ ap (λ (xs : List Out). xs ++ out ∷ []) so_far.taken ∙ append_assoc old.taken so_far.outs (out ∷ []);
  ring = ring ∙ so_far.ring;
  stops = stops ∙ so_far.stops;
  ends = ends ∙ so_far.ends;
}

pub dropped_to_end : (dest : Dest) (old now new : OutletState) → Drops old now → new.taken ≡ now.taken → new.ring ≡ now.ring → now.ends.times < new.ends.times → new.ends.last ≡ name_of dest → IsDropped dest old new
dropped_to_end dest old now new so_far same ring more last = record {
  outs = so_far.outs;
  taken = same ∙ so_far.taken;
  ring = ring ∙ so_far.ring;
  told = inl (subst (λ (told : TimesTold). told.times < new.ends.times) so_far.ends more, last);
}

pub dropped_to_stop : (dest : Dest) (old now new : OutletState) → Drops old now → new.taken ≡ now.taken → new.ring ≡ now.ring → now.stops < new.stops → IsDropped dest old new
dropped_to_stop dest old now new so_far same ring more = record {
  outs = so_far.outs;
  taken = same ∙ so_far.taken;
  ring = ring ∙ so_far.ring;
  told = inr (subst (λ (told : ℕ). told < new.stops) so_far.stops more);
}

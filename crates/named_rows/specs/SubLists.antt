-- Which subscriptions a list has.
use Rattle.std.specs.Prelude.{List, [], ◌∷◌}
use Rattle.named_rows.specs.declared.subs.ClientSub.{ClientSub}
use Rattle.named_rows.specs.declared.sub_list.Held.{Held}
use Rattle.named_rows.specs.declared.sub_list.Held.TheVariants.{Single, Many}

-- one that takes no memory, or those of a vector
abbrev pub subs_in : Held → List ClientSub
subs_in (Single sub) = sub ∷ []
subs_in (Many subs) = subs.items

-- Without an access security file nothing is asked of users, and groups have the rights of their lines.
use Rattle.std.proofs.Common.{◌≡◌, ℕ, List, Option, None, refl}
use Rattle.pvlist.specs.declared.groups.GroupLine.{GroupLine}
use Rattle.pv_alias.specs.declared.lead.Lead.{Lead}
use Rattle.pv_alias.specs.Rights.{group_rights}
use Rattle.rule_desk.specs.Granting.{led, rights_by}

pub leads_without_access : (user : List ℕ) (hosts : List (List ℕ)) (lead : Option Lead) → led None user hosts lead ≡ lead
leads_without_access user hosts lead = refl

pub rights_without_access : (lines : List GroupLine) (group : Option (List ℕ)) → rights_by lines group None ≡ group_rights lines group
rights_without_access lines group = refl

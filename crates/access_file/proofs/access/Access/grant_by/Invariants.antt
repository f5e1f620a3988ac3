use Rattle.std.proofs.Common.{◌≡◌, drop}
use Rattle.std.specs.List.{filter}
use Rattle.std.specs.Prelude.{fold}
use Rattle.access_file.specs.Groups.{applies, better_by, granted_by}
use Rattle.access_file.specs.HostNames.{hosts_of}
use Rattle.access_file.proofs.access.Access.grant_by.Given as goal

-- what is left decides
abbrev pub invariant-loop-rule : goal.invariant-loop-rule
invariant-loop-rule l =
    fold better_by l.best (filter (applies l.self l.user (hosts_of l.rows l.host) l.level) (drop l.rule-index l.rules)) ≡ granted_by l.self l.user (hosts_of l.rows l.host) l.level l.rules

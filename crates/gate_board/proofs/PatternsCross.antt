-- A compiled pattern may go to another thread: `search` alone gives up at a type as deep, so each part has a lemma.
use denote.Param.Send.{IsSend, sendable}
use denote.Param.SendFields.{declared_send}
use Rattle.std.proofs.Crossing.{crosses}
use Rattle.regex_hir.specs.contracts.hir.Hir as hir
use Rattle.regex_hir.proofs.hir.Hir.TheLaws.TheKnot as knot
use Rattle.regex_dfa.specs.contracts.dfa.Dfa as dfa
use Rattle.regex_literal.specs.contracts.prefilter.Prefilter as prefilter
use Rattle.regex_literal.specs.contracts.caseless.Caseless as caseless
use Rattle.regex_literal.specs.contracts.byte_set.ByteSet as byte_set
use Rattle.regex_extract.specs.contracts.frames.Frame as frame
use Rattle.regex_meta.specs.contracts.plan.Plans as plans
use Rattle.regex_meta.specs.contracts.signs.Signs as signs
use Rattle.regex_meta.specs.contracts.program.Program as program
use Rattle.regex_syntax.specs.contracts.Config as config
use Rattle.regex.specs.contracts.Regex as regex
use Rattle.regex.specs.contracts.pattern.Pattern as pattern

hir_send : IsSend hir.the_row
hir_send = search (knot.crosses, sendable, crosses) depth 60 fits 20000

dfa_send : IsSend dfa.the_row
dfa_send = search (sendable, crosses) depth 60 fits 20000

prefilter_send : IsSend prefilter.the_row
prefilter_send = search (sendable, crosses) depth 60 fits 20000

caseless_send : IsSend caseless.the_row
caseless_send = search (sendable, crosses, prefilter_send) depth 60 fits 20000

byte_set_send : IsSend byte_set.the_row
byte_set_send = search (sendable, crosses) depth 60 fits 20000

frame_send : IsSend frame.the_row
frame_send = search (sendable, crosses) depth 60 fits 20000

config_send : IsSend config.the_row
config_send = search (sendable, crosses) depth 60 fits 20000

plans_send : IsSend plans.the_row
plans_send = search (sendable, crosses, hir_send, prefilter_send, frame_send) depth 60 fits 20000

signs_send : IsSend signs.the_row
signs_send = search (sendable, crosses, hir_send, caseless_send) depth 60 fits 20000

program_send : IsSend program.the_row
program_send = declared_send program.the_type (
  hir_send,
  (
    dfa_send,
    (
      plans_send,
      (
        search (sendable, crosses, signs_send) depth 20,
        (
          search (sendable, crosses, byte_set_send) depth 20,
          (search sendable depth 20, (search sendable depth 20, (search sendable depth 20, tt))),
        ),
      ),
    ),
  ),
)

pattern_send : IsSend pattern.the_row
pattern_send = declared_send pattern.the_type (search (sendable, crosses) depth 40, (config_send, (search (sendable, crosses) depth 40, (program_send, tt))))

pub regex_send : IsSend regex.the_row
regex_send = declared_send regex.the_type (pattern_send, tt)

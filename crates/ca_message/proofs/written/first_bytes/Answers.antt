use Rattle.std.proofs.Common.{sym, arith}
use Rattle.std.proofs.lemmas.List.{take_all}
use Rattle.ca_message.specs.declared.written.TheConstants.{STRING_SIZE}
use Rattle.ca_message.proofs.written.first_bytes.Goals as goal

pub returns-then-payload-lt-STRING_SIZE-clause-bytes : goal.returns-then-payload-lt-STRING_SIZE-clause-bytes
returns-then-payload-lt-STRING_SIZE-clause-bytes c = sym (take_all STRING_SIZE c.args.payload.now (omega arith))

use Rattle.ca_message.specs.Written.{plain_type}
use Rattle.ca_message.proofs.WrittenBack.{counted_value-fits, counted_value-padded, counted_value-sized}
use Rattle.ca_message.proofs.laws.written_values_are_exact.Goals as goal

pub returns-clause-sized : goal.returns-clause-sized
returns-clause-sized c = λ dtype count native payload value dbr is_written is_plain. counted_value-sized dbr dtype count native payload value (rw is_plain at is_written)

pub returns-clause-fits : goal.returns-clause-fits
returns-clause-fits c = λ dtype count native payload value is_written. counted_value-fits (plain_type dtype) dtype count native payload value is_written

pub returns-clause-read_back : goal.returns-clause-read_back
returns-clause-read_back c = λ dtype count native payload value is_written. counted_value-padded (plain_type dtype) dtype count native payload value is_written

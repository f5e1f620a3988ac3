-- Each test is one of the definition.
use Rattle.std.proofs.Common.{rules, ◌≡◌, ◌≤◌, length, Some, Ok}
use Rattle.std.specs.Option.{option_copied}
use Rattle.dbr_layout.specs.declared.dbr.TheConstants.{MAX_PAYLOAD}
use Rattle.dbr_layout.specs.Conversion.{conversion_between, given_count}
use Rattle.dbr_layout.specs.Converted.{used}
use Rattle.dbr_layout.specs.Dbr.{dbr_of, payload_size}
use Rattle.dbr_layout.specs.Properties.{FitIfThere}
use Rattle.dbr_layout.proofs.Converting.{states_there}
use Rattle.dbr_layout.proofs.Written.{written_of}
use Rattle.dbr_layout.proofs.converted.Converted.write.Goals as goal

pub lay_out-requires-clause-states : goal.lay_out-requires-clause-states
lay_out-requires-clause-states c =
    let known : conversion_between c.args.view.now.dbr.base c.in_ok-asked.asked.base ≡ Some c.in_ok-how.how = search rules in
    let fit : FitIfThere c.args.view.now.dbr.base (option_copied c.in_ok-props.props) = search rules in
    let told : used c.args.view.now.dbr.base c.in_ok-asked.asked (option_copied c.args.given) ≡ Ok (option_copied c.in_ok-props.props) = search rules in
    states_there c.args.view.now.dbr.base c.in_ok-asked.asked c.in_ok-how.how (option_copied c.args.given) (option_copied c.in_ok-props.props) known fit told

pub returns-clause-ok : goal.returns-clause-ok
returns-clause-ok c =
    let type : dbr_of c.args.dtype ≡ Some c.in_ok-asked.asked = search rules in
    let known : conversion_between c.args.view.now.dbr.base c.in_ok-asked.asked.base ≡ Some c.in_ok-how.how = search rules in
    let told : used c.args.view.now.dbr.base c.in_ok-asked.asked (option_copied c.args.given) ≡ Ok (option_copied c.in_ok-props.props) = search rules in
    let many : c.given-elements.result ≡ given_count c.args.count (length c.args.view.now.parts.elements) = search rules in
    let fits : payload_size c.in_ok-asked.asked c.given-elements.result ≤ MAX_PAYLOAD = search rules in
    let whole = written_of c.args.view.now (option_copied c.args.given) (option_copied c.in_ok-props.props) c.args.dtype c.args.count c.in_ok-asked.asked c.in_ok-how.how c.given-elements.result type known told many fits in
    rw whole (search rules)

pub returns-in_err-from_vec-clause-err : goal.returns-in_err-from_vec-clause-err
returns-in_err-from_vec-clause-err c =
    let type : dbr_of c.args.dtype ≡ Some c.in_ok-asked.asked = search rules in
    let known : conversion_between c.args.view.now.dbr.base c.in_ok-asked.asked.base ≡ Some c.in_ok-how.how = search rules in
    let told : used c.args.view.now.dbr.base c.in_ok-asked.asked (option_copied c.args.given) ≡ Ok (option_copied c.in_ok-props.props) = search rules in
    let many : c.given-elements.result ≡ given_count c.args.count (length c.args.view.now.parts.elements) = search rules in
    let fits : payload_size c.in_ok-asked.asked c.given-elements.result ≤ MAX_PAYLOAD = search rules in
    let whole = written_of c.args.view.now (option_copied c.args.given) (option_copied c.in_ok-props.props) c.args.dtype c.args.count c.in_ok-asked.asked c.in_ok-how.how c.given-elements.result type known told many fits in
    search rules

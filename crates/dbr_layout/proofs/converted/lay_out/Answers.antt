-- The pieces, in the order in which they were written, are the layout.
use Rattle.dbr_layout.proofs.Converting.{fit_converted, leads, reads_from}
use Rattle.dbr_layout.proofs.Laying.{laid_out_as}
use Rattle.std.specs.Option.{option_copied, option_map}
use Rattle.dbr_layout.specs.Conversion.{converted_properties}
use Rattle.dbr_layout.specs.Parts.{Parts}
use Rattle.dbr_layout.proofs.converted.lay_out.Goals as goal

pub put_fields-requires : goal.put_fields-requires
put_fields-requires c = reads_from _ _ _ _ c.requires.known c.requires.fit

pub put_elements-requires-clause-read : goal.put_elements-requires-clause-read
put_elements-requires-clause-read c = rw c.items.ensures.size (leads _ _ _ c.requires.known).there

pub put_elements-requires-clause-states : goal.put_elements-requires-clause-states
put_elements-requires-clause-states c = rw c.states_in.ensures c.requires.states

pub returns : goal.returns
returns c =
    let sized = rw (c.items.ensures.items, c.items.ensures.size, c.states_in.ensures, (leads _ _ _ c.requires.known).sized) at c.in_ok-put_elements.ensures.sized in
    let front : Parts = record c.args.view.now.parts { properties = option_map (converted_properties c.args.asked.base c.args.how) (option_copied c.args.props) } in
    rw
    (c.in_ok-fill_to-2.ensures, c.in_ok-put_elements.ensures.ok, c.items.ensures.items, c.states_in.ensures, c.in_ok-fill_to.ensures, c.in_ok-put_fields.ensures, c.in_ok-payload.ensures.items, c.offset.ensures)
    (laid_out_as c.args.asked front c.args.given c.args.size _ (fit_converted _ _ _ _ c.requires.known c.requires.fit) sized c.requires.size)

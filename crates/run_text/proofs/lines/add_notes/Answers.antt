use Rattle.run_text.specs.Lines.{store_line}
use Rattle.run_text.proofs.Stores.{pieces_more}
use Rattle.run_text.proofs.lines.add_notes.Goals as goal

pub loop-store-preserved : goal.loop-store-preserved
loop-store-preserved c =
    pieces_more (store_line c.args.program.now c.args.memory.now) c.as_slice-store-items.result.now c.args.notes.now.stores c.loop-store.store-index c.store-item.result c.add_target.new.text.items c.loop-store.text.items c.add_store.new.text.items
    c.as_slice-store-items.ensures c.loop-store-test.true c.store-item.is c.loop-store.invariant c.in_ok-add_store.ensures

use Rattle.std.specs.Prelude.{is_ok}
use Rattle.c_structures.proofs.Opening.{put_back}
use Rattle.c_structures.proofs.lists.MemberLists.keep.Goals as goal

pub returns : goal.returns
returns c = λ syntax results is are.
    put_back syntax results (is_ok c.push.result) c.args.self.now.open.items c.push.new.self.items (record { list = c.args.list; before = c.args.before }) c.push.ensures.items are is

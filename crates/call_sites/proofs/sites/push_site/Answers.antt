use Rattle.std.proofs.Common.{refl, sym, ◌∙◌}
use Rattle.std.proofs.lemmas.Option.{slice_get_read}
use Rattle.row_numbers.specs.Frame.{setting_in}
use Rattle.call_sites.proofs.SiteLemmas.{site_pushed, site_skipped}
use Rattle.call_sites.proofs.sites.push_site.Goals as goal

pub returns-in_ok-push : goal.returns-in_ok-push
returns-in_ok-push c h =
    let at = slice_get_read c.args.frame.now.program.now.nodes.items _ c.args.n c.index.result.now refl c.requires.node c.index.ensures in
    site_pushed (setting_in c.args.frame.now) c.args.n c.index.result.now _ _ _ at (sym c.is_call.ensures ∙ c.if-is_call.true) c.in_ok-site.ensures c.in_ok-push.ensures.ok h

pub returns-else-is_call : goal.returns-else-is_call
returns-else-is_call c h =
    let at = slice_get_read c.args.frame.now.program.now.nodes.items _ c.args.n c.index.result.now refl c.requires.node c.index.ensures in
    site_skipped (setting_in c.args.frame.now) c.args.n c.index.result.now _ at (sym c.is_call.ensures ∙ c.if-is_call.false) h

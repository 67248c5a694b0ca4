use Rattle.std.proofs.Common.{◌≡◌, ◌∙◌, length, sym, ap, arith}
use Rattle.std.specs.Option.{is_some}
use Rattle.shm_report.proofs.ValueNaming.{numbered_push, not_named}
use Rattle.shm_report.proofs.value_names.ValueNames.add.Goals as goal

pub returns-in_ok-insert-clause-numbered : goal.returns-in_ok-insert-clause-numbered
returns-in_ok-insert-clause-numbered c = λ q.
    let named = c.args.self.now.blocks.items in
    let fresh = not_named named c.args.value (ap is_some (sym (c.requires c.args.value)) ∙ sym c.if-not-contains_key.ensures) in
    let l : c.len.result ≡ length c.push.new.self.items = omega (arith, c.push.new.self.ok.0, c.len.ensures) in
    numbered_push named c.push.new.self.items c.args.value c.len.result q _ _ c.in_ok-push.ensures.items l fresh (c.requires q) (c.in_ok-insert.ensures.updates.0 q)

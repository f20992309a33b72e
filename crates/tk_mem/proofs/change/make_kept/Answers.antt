use Rattle.tk_mem.proofs.Undoing.{made_back, left_back}
use Rattle.tk_mem.proofs.change.make_kept.Goals as goal

pub returns-clause-back : goal.returns-clause-back
returns-clause-back c =
    made_back c.args.undo.now.items c.push.new.self.items c.args.change.now c.in_ok-back.back c.key_of.result.now c.args.table.now c.make.new.table
    c.requires c.in_hash_order.ensures c.key_of.ensures c.in_ok-back.ensures c.in_ok-push.ensures.items c.in_ok-make.ensures.ok

pub returns-in_err-make-clause-back : goal.returns-in_err-make-clause-back
returns-in_err-make-clause-back c =
    left_back c.args.undo.now.items c.push.new.self.items c.in_ok-back.back c.key_of.result.now c.args.table.now c.make.new.table
    c.in_hash_order.ensures c.in_ok-back.ensures c.in_ok-push.ensures.items c.in_err-make.ensures.err

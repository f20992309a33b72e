use Rattle.std.proofs.Common.{sym, ap, ◌∙◌, subst}
use Rattle.tk_locks.specs.Calls as locks
use Rattle.tk_locks.specs.View.{View}
use Rattle.tk_locks.specs.declared.pass.Pass.{Pass}
use Rattle.tk_dbm.proofs.Making.{made_fresh, made_writable}
use Rattle.tk_dbm.proofs.dbm.Dbm.make.Goals as goal

pub returns-clause-own : goal.returns-clause-own
returns-clause-own g c =
    let e = c.in_ok-table.ensures in let table = c.in_ok-table.table in let begun = ap locks.view c.new-2.ensures ∙ e.first in record {
      own = subst (λ (p : Pass). locks.IsPassOf table p) (sym c.new-2.ensures) e.own;
      held = ap (λ (v : View). v.caller.held) begun;
      breaking = ap (λ (v : View). v.caller.breaking) begun;
      fresh = made_fresh g.S.SeqStore.lawful g.S.SeqStore.stands g.S.SeqStore.store_view g.S.SeqStore.constants c.args.stores c.args.stripes c.args.base c.args.writable c.requires.may (locks.its table) e.its;
      writable = made_writable g.S.SeqStore.lawful g.S.SeqStore.stands g.S.SeqStore.store_view g.S.SeqStore.constants c.args.stores c.args.stripes c.args.base c.args.writable c.requires.may (locks.its table) e.its;
    }

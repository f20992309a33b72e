use Rattle.std.proofs.Common.{refl, ap}
use Rattle.tk_mem.specs.TinyView.{TinyView}
use Rattle.tk_mem.proofs.Standing.{applied}
use Rattle.tk_mem.proofs.tiny_records.TinyRecordsSeqStore.apply_reserved.Goals as goal

pub returns-then-self-clause-stands : goal.returns-then-self-clause-stands
returns-then-self-clause-stands c changes p first since hard st =
    applied c.args.self.now _ c.args.number changes first since hard c.if-self.true p st (ap (λ (v : TinyView). v.pairs) c.commit.ensures) refl

pub returns-then-self-clause-since : goal.returns-then-self-clause-since
returns-then-self-clause-since c changes p t n first since hard st =
    applied c.args.self.now _ c.args.number changes first since hard c.if-self.true p st (ap (λ (v : TinyView). v.pairs) c.commit.ensures) refl

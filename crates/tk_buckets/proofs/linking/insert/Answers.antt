use Rattle.std.proofs.Common.{◌≡◌, ℕ, List, ◌∷◌, subst}
use Rattle.std.specs.Prelude.{OnOk}
use Rattle.std.specs.Option.{option_map}
use Rattle.tk_disk.specs.Disk.{put_at}
use Rattle.tk_buckets.specs.Chain.{IsChain, IsNext, head_cell}
use Rattle.tk_buckets.proofs.Links.{inserted, other_stays, told_put}
use Rattle.tk_buckets.proofs.linking.insert.Goals as goal

pub returns-clause-first : goal.returns-clause-first
returns-clause-first g c = λ places.
    told_put c.write_at.result (g.D.Disk.image c.args.disk.now) _ _ (λ f. IsNext c.args.head.now f c.args.bucket c.args.place places) (λ f. IsChain c.args.head.now f c.args.bucket (c.args.place ∷ places)) (subst (λ (l : List ℕ). OnOk c.write_at.result (g.D.Disk.image c.write_at.new.self ≡ option_map (put_at (head_cell c.args.bucket) l) (g.D.Disk.image c.args.disk.now))) c.to_be_bytes.ensures c.write_at.ensures.written)
    (λ f next. inserted c.args.head.now f c.args.bucket c.args.place places c.requires.bucket c.ranges.place.fits next)

pub returns-clause-others : goal.returns-clause-others
returns-clause-others g c = λ other places ne.
    told_put c.write_at.result (g.D.Disk.image c.args.disk.now) _ _ (λ f. IsChain c.args.head.now f other places) (λ f. IsChain c.args.head.now f other places) (subst (λ (l : List ℕ). OnOk c.write_at.result (g.D.Disk.image c.write_at.new.self ≡ option_map (put_at (head_cell c.args.bucket) l) (g.D.Disk.image c.args.disk.now))) c.to_be_bytes.ensures c.write_at.ensures.written)
    (λ f chain. other_stays c.args.head.now f c.args.bucket other c.args.place places c.requires.bucket ne chain)

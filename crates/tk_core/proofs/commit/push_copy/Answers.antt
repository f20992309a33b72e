use Rattle.std.proofs.Common.{rules, ◌≡◌, refl}
use Rattle.std.proofs.lemmas.List.Elements.{same_from_all_zip}
use Rattle.tk_model.specs.declared.record.Entry.{Entry}
use Rattle.tk_model.specs.declared.record.Entry.TheVariants as entries
use Rattle.tk_model.specs.contracts.record.EntryClone.TheImpl.{by_variants}
use Rattle.tk_core.proofs.commit.push_copy.Goals as goal

same : (e d : Entry) → by_variants e d → d ≡ e
same (entries.Proc ts) (entries.Proc ts2) h = search (rules, same_from_all_zip)
same (entries.Proc ts) (entries.Next w2 b2 f2 a2) h = absurd h
same (entries.Proc ts) (entries.Each ts2) h = absurd h
same (entries.Proc ts) (entries.Count n2) h = absurd h
same (entries.Proc ts) entries.Clear h = absurd h
same (entries.Proc ts) (entries.Sync hard2) h = absurd h
same (entries.Next w b f a) (entries.Proc ts2) h = absurd h
same (entries.Next w b f a) (entries.Next w2 b2 f2 a2) h = search (rules, same_from_all_zip)
same (entries.Next w b f a) (entries.Each ts2) h = absurd h
same (entries.Next w b f a) (entries.Count n2) h = absurd h
same (entries.Next w b f a) entries.Clear h = absurd h
same (entries.Next w b f a) (entries.Sync hard2) h = absurd h
same (entries.Each ts) (entries.Proc ts2) h = absurd h
same (entries.Each ts) (entries.Next w2 b2 f2 a2) h = absurd h
same (entries.Each ts) (entries.Each ts2) h = search (rules, same_from_all_zip)
same (entries.Each ts) (entries.Count n2) h = absurd h
same (entries.Each ts) entries.Clear h = absurd h
same (entries.Each ts) (entries.Sync hard2) h = absurd h
same (entries.Count n) (entries.Proc ts2) h = absurd h
same (entries.Count n) (entries.Next w2 b2 f2 a2) h = absurd h
same (entries.Count n) (entries.Each ts2) h = absurd h
same (entries.Count n) (entries.Count n2) h = search (rules, same_from_all_zip)
same (entries.Count n) entries.Clear h = absurd h
same (entries.Count n) (entries.Sync hard2) h = absurd h
same entries.Clear (entries.Proc ts2) h = absurd h
same entries.Clear (entries.Next w2 b2 f2 a2) h = absurd h
same entries.Clear (entries.Each ts2) h = absurd h
same entries.Clear (entries.Count n2) h = absurd h
same entries.Clear entries.Clear h = refl
same entries.Clear (entries.Sync hard2) h = absurd h
same (entries.Sync hard) (entries.Proc ts2) h = absurd h
same (entries.Sync hard) (entries.Next w2 b2 f2 a2) h = absurd h
same (entries.Sync hard) (entries.Each ts2) h = absurd h
same (entries.Sync hard) (entries.Count n2) h = absurd h
same (entries.Sync hard) entries.Clear h = absurd h
same (entries.Sync hard) (entries.Sync hard2) h = search (rules, same_from_all_zip)

pub returns-clause-ok : goal.returns-clause-ok
returns-clause-ok c = let h = same c.args.entry.now c.in_ok-copy.copy c.in_ok-copy.ensures.cases in search rules

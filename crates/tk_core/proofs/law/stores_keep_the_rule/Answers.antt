use Rattle.std.proofs.Common.{◌≡◌, ℕ, Bool, true, List, refl, ap, ◌∙◌}
use Rattle.tk_model.specs.declared.record.Group.{Group}
use Rattle.tk_core.specs.Lists.{put}
use Rattle.tk_core.specs.Rule.{groups_of, hard_groups}
use Rattle.tk_core.proofs.Facts.{put_at, put_off}
use Rattle.tk_core.proofs.Stores.{takes_out, puts_back, stands_anew}
use Rattle.tk_core.proofs.law.stores_keep_the_rule.Goals as goal

pub returns-clause-moves : goal.returns-clause-moves
returns-clause-moves c = record {
  out = λ s id v i sound at may. takes_out _ _ _ _ _ _ _ _ _ sound id v at i may;
  back = λ s id v i is_broken now sound at may.
      puts_back _ _ _ _ _ _ _ _ _ sound id v at (λ q gs n. put s.stands i now q gs n ≡ true) i is_broken
      record {
        live = may.live;
        store = may.store;
        out = may.out;
        stays = may.stays;
        stands = λ e. ap (λ (F : List Group → ℕ → Bool). F (groups_of c.args.frame s.first s.log i) (hard_groups c.args.frame s.first s.log i)) (put_at s.stands i now i refl) ∙ may.stands e;
      }
      (λ q ne gs n h. ap (λ (F : List Group → ℕ → Bool). F gs n) (put_off s.stands i now q ne) ∙ h);
}

pub returns-clause-anew : goal.returns-clause-anew
returns-clause-anew c = λ s now sound good. stands_anew _ _ _ _ _ _ _ (λ i gs n. s.stands i gs n ≡ true) (λ i gs n. now i gs n ≡ true) s.callers sound good

-- What growing gives the rank loop: a grown plan keeps Standing (standing_grown). Leans on Standing.
use Prim.Native.Nat.{ℕ, ◌<◌}
use mathlib.Core.Path.{sym, ◌∙◌}
use mathlib.Core.List.{List}
use native.Mathlib.Omega.{arith}
use Rattle.plans.specs.Covers.{Covers}
use Rattle.units.specs.declared.Size.{Size}
use Rattle.work.specs.Work.{END}
use Rattle.work.specs.Input.{Input}
use Rattle.work.specs.State.{InList}
use Rattle.work.proofs.Area.{unchanged_at, unchanged_sym}
use Rattle.work.proofs.State.{same_in_list, same_lists, end_most}
use Rattle.grow.specs.Growing.{Grown}
use Rattle.placer.proofs.Standing.{Standing, same_shut_signal, same_shut_channel}

module _ (z : Size) (rank : ℕ → ℕ → ℕ) (K : Covers) (m i r : ℕ) (v w : List ℕ) (n : Input z v)
    (S : Standing z rank K m i v) (G : Grown z r v w) where
  old : (s c : ℕ) → s < z.signals → InList w s c → InList v s c
  old s c l h =
      same_in_list (unchanged_sym G.below) s c (omega (arith, n.limits.few_signals))
      (rw (unchanged_at G.below END s (omega arith) (omega (arith, n.limits.few_signals))) (end_most n S.lists s l)) h

  pub standing_grown : Standing z rank K m i w
  standing_grown =
      record {
        certificate = S.certificate;
        mates = G.mates;
        along = G.along;
        lists = same_lists n S.lists G.below;
        entered = λ s c l h. S.entered s c l (old s c l h);
        stands = λ s c l h. S.stands s c l (old s c l h);
        all = λ s c l k q h st.
            same_in_list G.below s c (omega (arith, n.limits.few_signals)) (end_most n S.lists s l) (S.all s c l k q h st);
        open_signal = λ s l e. S.open_signal s l (sym (same_shut_signal n G.shut s l) ∙ e);
        open_channel = λ c l e. S.open_channel c l (sym (same_shut_channel n G.shut c l) ∙ e);
        never_signal = λ s l k. same_shut_signal n G.shut s l ∙ S.never_signal s l k;
        never_channel = λ c l k. same_shut_channel n G.shut c l ∙ S.never_channel c l k;
        placed = λ j s k l q. G.keeps.placed s l (S.placed j s k l q);
        taken = λ j c k l q. G.keeps.taken c l (S.taken j c k l q);
      }

-- Entering the pairs of a rank along its chain: what the loop keeps (Entering), from the first entry (entering_none) over
-- each turn (entering_more) to the end (entering_done). Leans on proofs/Waiting for the room and proofs/Joined for a turn.
use Prim.Native.Nat.{ℕ, suc, ◌+◌, ◌/◌, ◌≤◌, ◌<◌}
use mathlib.Core.Path.{◌≡◌, refl, sym, ap, ◌∙◌}
use mathlib.Core.Logic.{◌⊎◌, inl, inr, ⊎_elim}
use mathlib.Core.Bool.{Bool, true, false, ◌||◌, true≢false}
use mathlib.Core.List.{List}
use native.Mathlib.Nat.{lt_of_not-le}
use native.Mathlib.Decide.{ℕ_discrete, dec_lt}
use native.Mathlib.Omega.{arith}
use lib.ListN.{length}
use Rattle.std.proofs.lemmas.Bool.{or_parts}
use Rattle.plans.proofs.Sums.{same_yes}
use Rattle.units.specs.declared.Size.{Size}
use Rattle.work.specs.Work.{at, LINK, FIRST, START, END, CHANNEL, SHUT_SIGNAL, SHUT_CHANNEL, MIDDLE, WHOLE, signal_at, channel_at, next_at, rank_at, Unchanged}
use Rattle.work.specs.Input.{Input}
use Rattle.work.specs.State.{InList, Lists}
use Rattle.work.proofs.Area.{unchanged_refl, unchanged_trans, unchanged_at}
use Rattle.work.proofs.Input.{same_start, same_signal, same_channel, same_next, same_input, start_most}
use Rattle.enter.specs.Entering.{Room, Entered, Quiet}
use Rattle.enter.specs.Inside.{EnteredPair}
use Rattle.enter.proofs.Waiting.{same_waiting, waiting_from, waiting_first, waiting_next, waiting_last}
use Rattle.enter.proofs.Joined.{Steps, joined_steps, left_out_steps}

-- Entry e of rank r is about to enter: the pairs of the rank before it have entered, and each list has room for its signal's
-- entries that still wait.
pub record Entering (z : Size) (r e : ℕ) (any : Bool) (v w : List ℕ) : Type 0 where
  pub input : Unchanged 0 MIDDLE w v
  pub rest : Unchanged CHANNEL WHOLE w v
  pub lists : Lists z w
  pub rank : e < z.pairs.0 → rank_at v e ≡ r
  pub enough : (s : ℕ) → s < z.signals → at w END s + waiting_from z r e v s ≤ at v START (suc s)
  pub keeps : (s c : ℕ) → s < z.signals → InList v s c → InList w s c
  pub adds : (j : ℕ) → j < z.pairs.0 → j < e → rank_at v j ≡ r → at v SHUT_SIGNAL (signal_at v j) ≡ 0 → at v SHUT_CHANNEL (channel_at v j) ≡ 0
      → InList w (signal_at v j) (channel_at v j)
  pub only : (s c : ℕ) → s < z.signals → InList w s c
      → InList v s c ⊎ ((j : ℕ) × (j < z.pairs.0) × (rank_at v j ≡ r) × (signal_at v j ≡ s) × (channel_at v j ≡ c) × (at v SHUT_SIGNAL s ≡ 0) × (at v SHUT_CHANNEL c ≡ 0))
  pub quiet : any ≡ false → Quiet z v w

module _ {z : Size} {r : ℕ} {v : List ℕ} (n : Input z v) where
  pub entering_none : {e : ℕ} → Lists z v → Room z r v → 1 ≤ r → r ≤ z.ranks → e ≡ at v FIRST r → Entering z r e false v v
  entering_none {e} l room least most first =
      record {
        input = unchanged_refl 0 MIDDLE v;
        rest = unchanged_refl CHANNEL WHOLE v;
        lists = l;
        rank = λ h. rw first (n.first_is r least most (omega arith));
        enough = λ s h. omega (arith, room.enough s h, waiting_first z r e v s);
        keeps = λ s c h i. i;
        adds = λ j h before rank. absurd (n.first_skips r j least most h (omega arith) rank);
        only = λ s c h i. inl i;
        quiet = λ e. record { none_new = λ s c l i. i };
      }

  -- One turn, at entry e

  module _ {e : ℕ} {any : Bool} {w : List ℕ} (t : Entering z r e any v w) (inside : e < z.pairs.0) where
    few : e < 3000
    few = omega (arith, n.limits.few_pairs)

    -- the entry waits itself, so its slot is free
    slot : at w END (signal_at v e) < at v START (suc (signal_at v e))
    slot =
        let s = signal_at v e in
        omega (arith, t.enough s (n.signal e inside), waiting_next z r e v s (suc e) inside (omega arith) (t.rank inside), same_yes s s refl)

    -- what enter_pair requires
    pub entering_slot : (16384 ≤ length w) × (e < 3000) × (signal_at w e < 200) × (at w END (signal_at w e) < 3000)
    entering_slot =
        rw (same_signal t.input e few) (
          omega (arith, n.room, t.input.size),
          few,
          omega (arith, n.signal e inside, n.limits.few_signals),
          omega (arith, slot, start_most n (suc (signal_at v e)) (n.signal e inside), n.limits.few_pairs),
        )

    step_of : (did : Bool) {u : List ℕ} → EnteredPair did (signal_at w e) (channel_at w e) w u → Steps z (signal_at v e) (channel_at v e) w u
    step_of did {u} o = rw (← same_signal t.input e few, ← same_channel t.input e few) (go did o)
      where
        free : at w END (signal_at w e) < at w START (suc (signal_at w e))
        free =
            rw (same_signal t.input e few)
            (omega (arith, slot, same_start t.input (suc (signal_at v e)) (omega (arith, n.signal e inside, n.limits.few_signals))))

        go : (did : Bool) → EnteredPair did (signal_at w e) (channel_at w e) w u → Steps z (signal_at w e) (channel_at w e) w u
        go true j =
            joined_steps (same_input t.input n) t.lists j ((same_input t.input n).signal e inside) free
            (record { entry = e; inside = inside; signal = refl; channel = refl })
        go false o = left_out_steps t.lists o

    still_quiet : (did : Bool) {u : List ℕ} → EnteredPair did (signal_at w e) (channel_at w e) w u → (any || did) ≡ false → Quiet z v u
    still_quiet true j f = absurd (true≢false (or_parts any true f).1)
    still_quiet false o f = rw o.same (t.quiet (or_parts any false f).0)

    module _ {more : Bool} {u : List ℕ} (step : Steps z (signal_at v e) (channel_at v e) w u) (quiet : more ≡ false → Quiet z v u) where
      input : Unchanged 0 MIDDLE u v
      input = unchanged_trans step.input t.input

      next_of : {x : ℕ} → x ≡ at u LINK e → x / 16 ≡ next_at v e
      unfolding next_at
      next_of read = ap (λ (k : ℕ). k / 16) read ∙ same_next input e few

      -- nothing is shut or opened on the way
      shut_signal : at w SHUT_SIGNAL (signal_at v e) ≡ at v SHUT_SIGNAL (signal_at v e)
      shut_signal = unchanged_at t.rest SHUT_SIGNAL (signal_at v e) (omega arith) (omega (arith, n.signal e inside, n.limits.few_signals))

      shut_channel : at w SHUT_CHANNEL (channel_at v e) ≡ at v SHUT_CHANNEL (channel_at v e)
      shut_channel = unchanged_at t.rest SHUT_CHANNEL (channel_at v e) (omega arith) (omega (arith, n.channel e inside, n.limits.few_channels))

      adds : (j : ℕ) → j < z.pairs.0 → j < next_at v e → rank_at v j ≡ r → at v SHUT_SIGNAL (signal_at v j) ≡ 0
          → at v SHUT_CHANNEL (channel_at v j) ≡ 0 → InList u (signal_at v j) (channel_at v j)
      adds j l before rank a b = go (ℕ_discrete e j) (dec_lt j e)
        where
          go : Dec (e ≡ j) → Dec (j < e) → InList u (signal_at v j) (channel_at v j)
          go (yes q) h = rw (← q) (step.adds (shut_signal ∙ (rw (← q) at a)) (shut_channel ∙ (rw (← q) at b)))
          go (no q) (yes h) = step.keeps (signal_at v j) (channel_at v j) (n.signal j l) (t.adds j l h rank a b)
          go (no q) (no h) = absurd (n.next_skips e j inside (omega (arith, lt_of_not-le h)) before l (rank ∙ sym (t.rank inside)))

      onward : Entering z r (next_at v e) more v u
      onward =
          record {
            input = input;
            rest = unchanged_trans step.rest t.rest;
            lists = step.lists;
            rank = λ h. n.next_is e inside h ∙ t.rank inside;
            enough = λ s l.
                omega (arith, step.ends s l, t.enough s l, waiting_next z r e v s (next_at v e) inside (n.next_later e inside) (t.rank inside));
            keeps = λ s c l i. step.keeps s c l (t.keeps s c l i);
            adds = adds;
            only = λ s c l i.
                ⊎_elim
                (t.only s c l)
                (λ k.
                inr (
                  e,
                  inside,
                  t.rank inside,
                  k.0,
                  k.1,
                  ap (at v SHUT_SIGNAL) (sym k.0) ∙ sym shut_signal ∙ k.2,
                  ap (at v SHUT_CHANNEL) (sym k.1) ∙ sym shut_channel ∙ k.3,
                ))
                (step.only s c l i);
            quiet = quiet;
          }

    module _ (did : Bool) (u : List ℕ) {x : ℕ} (o : EnteredPair did (signal_at w e) (channel_at w e) w u) (read : x ≡ at u LINK e) where
      pub entering_later : e < x / 16
      entering_later = omega (arith, next_of {more = any || did} (step_of did o) (still_quiet did o) read, n.next_later e inside)

      pub entering_more : Entering z r (x / 16) (any || did) v u
      entering_more = rw (next_of {more = any || did} (step_of did o) (still_quiet did o) read) (onward (step_of did o) (still_quiet did o))

  pub entering_done : {e : ℕ} {any : Bool} {w : List ℕ} → Entering z r e any v w → z.pairs.0 ≤ e → Entered z r v w
  entering_done {e} {any} {w} t past =
      record {
        input = t.input;
        rest = t.rest;
        lists = t.lists;
        room =
            record {
              enough = λ s l.
                  omega (
                    arith,
                    t.enough s l,
                    waiting_last z r e v s,
                    same_waiting t.input z n.limits.few_pairs (suc r) s,
                    same_start t.input (suc s) (omega (arith, n.limits.few_signals)),
                  );
            };
        keeps = t.keeps;
        adds = λ j l rank a b. t.adds j l (omega arith) rank a b;
        only = t.only;
      }

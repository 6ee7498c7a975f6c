-- Striking, put together: one law for a signal that is covered (one_covered), one for a turn of each of
-- the loops (struck_more, channels_more), and that both loops together have Struck. Leans on work's
-- Area and State.
use Prim.Native.Nat.{ℕ, suc, ◌+◌, ◌-◌, ◌≤◌, ◌<◌}
use mathlib.Core.Path.{◌≡◌, refl, ap, sym, ◌∙◌}
use mathlib.Core.Bool.{Bool}
use mathlib.Core.List.{List}
use native.Mathlib.Decide.{dec_lt}
use native.Mathlib.Omega.{arith}
use borrow.Author.Count.{below_more}
use lib.ListN.{length, take, drop}
use Rattle.std.specs.Bool.{MatchBool}
use Rattle.std.specs.List.{AllWithin}
use Rattle.std.proofs.lemmas.Bool.{MatchBool-at_true}
use Rattle.units.specs.declared.Size.{Size}
use Rattle.units.specs.Limits.{most_signals, most_channels, most_pairs}
use Rattle.work.specs.Work.{at, none, START, END, LIVE, CHANNEL, SHUT_SIGNAL, SHUT_CHANNEL, FROM, MIDDLE, Unchanged, Put}
use Rattle.work.specs.Input.{Input}
use Rattle.work.specs.State.{InList, Lists, Mates, Unmarked}
use Rattle.work.proofs.Area.{region_length, region_at, put_other, put_below, put_above, unchanged_refl, unchanged_trans, unchanged_sym, unchanged_part, unchanged_at}
use Rattle.work.proofs.Input.{same_input, same_start, same_listed, start_most}
use Rattle.work.proofs.State.{same_in_list, same_mates, end_most, list_channel}
use Rattle.strike.specs.Striking.{Covered, Struck}
use Rattle.strike.specs.Inside.{Spared, Untouched, Lessened, Thinned, HasList, ClearOf, StruckAt, StruckOne, Met, StruckSignal, StruckSignals, Strikable, StruckTo, StruckChannels}

-- What is spared and untouched

spared_refl : (v : List ℕ) → Spared v v
spared_refl v = record { input = unchanged_refl _ _ v; mates = unchanged_refl _ _ v; marks = unchanged_refl _ _ v }

spared_sym : {v w : List ℕ} → Spared v w → Spared w v
spared_sym p = record { input = unchanged_sym p.input; mates = unchanged_sym p.mates; marks = unchanged_sym p.marks }

spared_trans : {v w x : List ℕ} → Spared v w → Spared w x → Spared v x
spared_trans p q =
    record {
      input = unchanged_trans q.input p.input;
      mates = unchanged_trans q.mates p.mates;
      marks = unchanged_trans q.marks p.marks;
    }

untouched_refl : (s : ℕ) (v : List ℕ) → Untouched s v v
untouched_refl s v = record { flag = refl; end = refl; room = λ k l m. refl }

-- Where no channel is marked a list is thinned as it stands,
pub thinned_clear : {z : Size} {s : ℕ} {v : List ℕ} → Input z v → Lists z v → s < z.signals → Unmarked z v → Thinned z s v v
thinned_clear {z} {s} {v} n l h clear =
    record {
      spared = spared_refl v;
      others = λ t m d. untouched_refl t v;
      less = record { shorter = omega arith; order = l.order s h; only = λ c i. i };
      unmarked = λ c i. clear.each c (list_channel n l s c h i);
      kept = λ c i q. i;
      flag = refl;
    }

-- and so it stays while the signals are struck.
clear_stays : (z : Size) {v w : List ℕ} → z.channels ≤ most_channels → Spared v w → Unmarked z v → Unmarked z w
clear_stays z few p clear = record { each = λ c l. unchanged_at p.marks FROM c (omega arith) (omega arith) ∙ clear.each c l }

-- The cover is read off the mates and the marks.
covered_same : {z : Size} {s : ℕ} {v w : List ℕ} → Spared v w → s < most_signals → z.channels ≤ most_channels → Covered z v s → Covered z w s
covered_same {z} {s} {v} {w} p l few k =
    let e : at w CHANNEL s ≡ at v CHANNEL s = unchanged_at p.mates CHANNEL s (omega arith) (omega arith) in
    record {
      placed = rw e k.placed;
      unmarked = rw e (unchanged_at p.marks FROM (at v CHANNEL s) (omega arith) (omega (arith, k.placed)) ∙ k.unmarked);
    }

module _ {s : ℕ} {v w : List ℕ} (h : Unchanged 0 MIDDLE w v) (small : s < most_signals) (u : Untouched s v w) where
  start : at w START s ≡ at v START s
  start = same_start h s (omega arith)

  untouched_trans : {x : List ℕ} → Untouched s w x → Untouched s v x
  untouched_trans t =
      record {
        flag = t.flag ∙ u.flag;
        end = t.end ∙ u.end;
        room = λ k l m.
            t.room k (omega (arith, start)) (omega (arith, same_start h (suc s) (omega arith))) ∙ u.room k l m;
      }

  module _ (inside : at v END s ≤ at v START (suc s)) {c : ℕ} where
    untouched_forth : InList v s c → InList w s c
    untouched_forth i =
        record {
          position = i.position;
          from = omega (arith, start, i.from);
          below = omega (arith, u.end, i.below);
          is = u.room i.position i.from (omega (arith, i.below)) ∙ i.is;
        }

    untouched_back : InList w s c → InList v s c
    untouched_back i =
        let from : at v START s ≤ i.position = omega (arith, start, i.from) in
        let below : i.position < at v END s = omega (arith, u.end, i.below) in
        record { position = i.position; from = from; below = below; is = sym (u.room i.position from (omega arith)) ∙ i.is }

module _ {z : Size} {v : List ℕ} (n : Input z v) (l : Lists z v) where
  -- One signal

  module _ {s : ℕ} (h : s < z.signals) where
    small : s < most_signals
    small = omega (arith, n.limits.few_signals)

    -- The list is thinned, and then the flag put.
    module _ {u w : List ℕ} (t : Thinned z s v u) (p : Put u SHUT_SIGNAL s 1 w) where
      lists_stay : Unchanged 0 CHANNEL w u
      lists_stay = put_below p 0 CHANNEL (omega arith)

      end_stays : at w END s ≡ at u END s
      end_stays = unchanged_at lists_stay END s (omega arith) (omega (arith, small))

      end_few : at u END s ≤ most_pairs
      end_few = omega (arith, t.less.shorter, end_most n l s h)

      thinned_list : {c : ℕ} → InList w s c → InList u s c
      thinned_list {c} i = same_in_list (unchanged_sym lists_stay) s c small (omega (arith, end_stays, end_few)) i

      flag_others : (o : ℕ) → o < z.signals → (o ≡ s → ⊥) → Untouched o v w
      flag_others o m q =
          let old = t.others o m q in
          record {
            flag = put_other p SHUT_SIGNAL o (λ e. q (omega arith)) ∙ old.flag;
            end = put_other p END o (λ e. omega (arith, n.limits.few_signals)) ∙ old.end;
            room = λ j a b. put_other p LIVE j (λ e. omega (arith, start_most n (suc o) m, n.limits.few_pairs)) ∙ old.room j a b;
          }

      covered : Covered z v s → StruckOne z s v w
      covered k =
          record {
            spared =
                spared_trans t.spared
                (record { input = put_below p _ _ (omega arith); mates = put_below p _ _ (omega arith); marks = put_above p _ _ (omega (arith, small)) });
            here =
                record {
                  shut = λ _. p.here;
                  as_it_was = λ q. absurd (q k);
                  less =
                      record {
                        shorter = omega (arith, end_stays, t.less.shorter);
                        order = omega (arith, end_stays, unchanged_at lists_stay START s (omega arith) (omega (arith, small)), t.less.order);
                        only = λ c i. t.less.only c (thinned_list i);
                      };
                  struck = λ c i _. t.unmarked c (thinned_list i);
                  kept = λ c i q. same_in_list lists_stay s c small end_few (t.kept c i (q k));
                };
            others = flag_others;
          }

    -- The signal sits on channel c, which is not marked.
    pub one_covered : Mates z v → {c mark : ℕ} {u w : List ℕ} → c ≡ at v CHANNEL s → (c ≡ none → ⊥) → mark ≡ at v FROM c → mark ≡ none
        → Thinned z s v u → Put u SHUT_SIGNAL s 1 w → StruckOne z s v w
    one_covered m sits placed read q t p =
        covered t p (record { placed = m.placed s h (λ e. placed (sits ∙ e)); unmarked = sym (ap (at v FROM) sits) ∙ sym read ∙ q })

  -- All signals

  module _ {w : List ℕ} {k : ℕ} (t : StruckSignals z k v w) where
    lessened : (s : ℕ) → s < z.signals → Lessened s v w
    lessened s h = pick (dec_lt s k)
      where
        pick : Dec (s < k) → Lessened s v w
        pick (yes e) = (t.done s e).less
        pick (no e) =
            let u = t.ahead s (omega arith) h in
            record {
              shorter = omega (arith, u.end);
              order = omega (arith, u.end, same_start t.spared.input s (omega (arith, small h)), l.order s h);
              only = λ c i. untouched_back t.spared.input (small h) u (l.inside s h) i;
            }

    signals_lists : Lists z w
    signals_lists =
        record {
          order = λ s h. (lessened s h).order;
          inside = λ s h.
              omega (arith, (lessened s h).shorter, same_start t.spared.input (suc s) (omega (arith, small h)), l.inside s h);
          backed = λ s c h i. same_listed t.spared.input n.limits.few_pairs (l.backed s c h ((lessened s h).only c i));
        }

    module _ {x : List ℕ} (few : k < z.signals) (o : StruckOne z k w x) where
      -- a signal that was struck before
      struck_earlier : (s : ℕ) → s < k → StruckAt z s v x
      struck_earlier s m =
          record {
            shut = λ q. u.flag ∙ d.shut q;
            as_it_was = λ q. u.flag ∙ d.as_it_was q;
            less =
                record {
                  shorter = omega (arith, u.end, d.less.shorter);
                  order = omega (arith, u.end, same_start o.spared.input s (omega (arith, small h)), d.less.order);
                  only = λ c i. d.less.only c (back i);
                };
            struck = λ c i q. d.struck c (back i) q;
            kept = λ c i q. untouched_forth o.spared.input (small h) u (signals_lists.inside s h) (d.kept c i q);
          }
        where
          h : s < z.signals
          h = omega arith

          d : StruckAt z s v w
          d = t.done s m

          u : Untouched s w x
          u = o.others s h (λ e. omega arith)

          back : {c : ℕ} → InList x s c → InList w s c
          back i = untouched_back o.spared.input (small h) u (signals_lists.inside s h) i

      -- the signal that was untouched and is struck now
      struck_now : StruckAt z k v x
      struck_now =
          record {
            shut = λ q. d.shut (forth q);
            as_it_was = λ q. d.as_it_was (λ j. q (covered_same (spared_sym t.spared) (small few) n.limits.few_channels j)) ∙ u.flag;
            less = record { shorter = omega (arith, u.end, d.less.shorter); order = d.less.order; only = λ c i. back i };
            struck = λ c i q. sym (mark c (back i)) ∙ d.struck c i (forth q);
            kept = λ c i q.
                d.kept c (untouched_forth t.spared.input (small few) u (l.inside k few) i)
                (λ j. mark c i ∙ q (covered_same (spared_sym t.spared) (small few) n.limits.few_channels j));
          }
        where
          d : StruckAt z k w x
          d = o.here

          u : Untouched k v w
          u = t.ahead k (omega arith) few

          forth : Covered z v k → Covered z w k
          forth q = covered_same t.spared (small few) n.limits.few_channels q

          back : {c : ℕ} → InList x k c → InList v k c
          back {c} i = untouched_back t.spared.input (small few) u (l.inside k few) (d.less.only c i)

          mark : (c : ℕ) → InList v k c → at w FROM c ≡ at v FROM c
          mark c i = unchanged_at t.spared.marks FROM c (omega arith) (omega (arith, list_channel n l k c few i, n.limits.few_channels))

      signals_more : StruckSignals z (k + 1) v x
      signals_more =
          record {
            spared = spared_trans t.spared o.spared;
            done = below_more _ k struck_earlier struck_now;
            ahead = λ s m h.
                untouched_trans t.spared.input (small h) (t.ahead s (omega arith) h) (o.others s h (λ e. omega arith));
          }

-- What is answered of the marks, cut out of the area, is said of the area,
pub clear_of : (n : ℕ) (w : List ℕ) (No : Type 0) {r : Bool} → FROM + n ≤ length w
    → MatchBool r (AllWithin (λ x. x ≡ none) (take (FROM + n - FROM) (drop FROM w)) 0 (length (take (FROM + n - FROM) (drop FROM w)))) No → ClearOf n r w
clear_of n w other l k =
    record {
      each = λ e c h.
          sym (region_at w FROM (FROM + n - FROM) c (omega arith))
          ∙ MatchBool-at_true _ _ e k c 0 (omega arith) (omega (arith, region_length w FROM (FROM + n - FROM) (omega arith)));
    }

-- and so of what striking meets, where its channels were looked through for marks.
pub met_by : {z : Size} {clear : Bool} {v : List ℕ} → Input z v → Lists z v → Mates z v → ClearOf z.channels clear v → Met z clear v
met_by n l m k = record { input = n; lists = l; mates = m; unmarked = λ e. record { each = k.each e } }

-- What striking meets stays while the signals are struck,
met_stays : {z : Size} {clear : Bool} {k : ℕ} {v w : List ℕ} → Met z clear v → StruckSignals z k v w → Met z clear w
met_stays {z} m t =
    record {
      input = same_input t.spared.input m.input;
      lists = signals_lists m.input m.lists t;
      mates = same_mates m.input t.spared.mates m.mates;
      unmarked = λ e. clear_stays z m.input.limits.few_channels t.spared (m.unmarked e);
    }

-- so one signal after the other is struck, whatever the size.
pub struck_more : {k : ℕ} {clear : Bool} {v w x : List ℕ} → StruckTo k clear v w → StruckSignal k clear w x → StruckTo (k + 1) clear v x
struck_more {k} {v = v} {w = w} t o =
    record {
      each = λ z m l.
          let few : k < z.signals = omega arith in
          let now : StruckSignals z k v w = t.each z m (omega arith) in
          signals_more m.input m.lists now few (o.each z (met_stays m now) few);
    }

module _ {n k : ℕ} {clear : Bool} {v w : List ℕ} (a : Strikable n clear v) (t : StruckTo k clear v w) (l : k ≤ n) where
  pub struck_some : StruckSignals a.size k v w
  struck_some = t.each a.size a.met (omega (arith, a.most))

  pub next_list : k < n → HasList k w
  next_list h =
      let m = met_stays a.met struck_some in
      record { size = a.size; input = m.input; lists = m.lists; mates = m.mates; inside = omega (arith, a.most) }

-- The channels

-- What a channel's flag becomes, by its mark.
pub record FlagAfter (mark flag r : ℕ) : Type 0 where
  pub unmarked : mark ≡ none → r ≡ flag
  pub marked : (mark ≡ none → ⊥) → r ≡ 1

module _ {v w u x : List ℕ} {n mark flag after : ℕ} (t : StruckChannels n v w) (few : n < most_channels) (read : mark ≡ at w FROM n)
    (read-flag : flag ≡ at w SHUT_CHANNEL n) (a : FlagAfter mark flag after) (p : Put w SHUT_CHANNEL n after u) (r : Put u FROM n none x) where
  old_mark : mark ≡ at v FROM n
  old_mark = read ∙ t.ahead_mark n (omega arith)

  old_flag : flag ≡ at v SHUT_CHANNEL n
  old_flag = read-flag ∙ t.ahead_flag n (omega arith) few

  flag_at : (c : ℕ) → c < most_channels → at x SHUT_CHANNEL c ≡ at u SHUT_CHANNEL c
  flag_at c l = put_other r SHUT_CHANNEL c (λ e. omega arith)

  flag_here : at x SHUT_CHANNEL n ≡ after
  flag_here = flag_at n few ∙ p.here

  flags : (c : ℕ) → c < most_channels → (c ≡ n → ⊥) → at x SHUT_CHANNEL c ≡ at w SHUT_CHANNEL c
  flags c l m = flag_at c l ∙ put_other p SHUT_CHANNEL c (λ e. m (omega arith))

  marks : (c : ℕ) → (c ≡ n → ⊥) → at x FROM c ≡ at w FROM c
  marks c m = put_other r FROM c (λ e. m (omega arith)) ∙ put_other p FROM c (λ e. omega arith)

  pub channels_more : StruckChannels (n + 1) v x
  channels_more =
      record {
        below = unchanged_trans (put_below r 0 SHUT_CHANNEL (omega arith)) (unchanged_trans (put_below p 0 SHUT_CHANNEL (omega arith)) t.below);
        cleared = below_more _ n (λ c l. marks c (omega arith) ∙ t.cleared c l) r.here;
        shut = below_more _ n (λ c l m. flags c (omega arith) (omega arith) ∙ t.shut c l m) (λ m. flag_here ∙ a.marked (λ e. omega (arith, old_mark)));
        as_it_was = below_more _ n (λ c l m. flags c (omega arith) (omega arith) ∙ t.as_it_was c l m) (λ m. flag_here ∙ a.unmarked (old_mark ∙ m) ∙ old_flag);
        ahead_mark = λ c l. marks c (omega arith) ∙ t.ahead_mark c (omega arith);
        ahead_flag = λ c l m. flags c m (omega arith) ∙ t.ahead_flag c (omega arith) m;
      }

-- First all signals, then all channels.
module _ {z : Size} {v w x : List ℕ} (n : Input z v) (l : Lists z v) (t : StruckSignals z z.signals v w)
    (k : StruckChannels z.channels w x) where
  signals_stay : Unchanged 0 CHANNEL x w
  signals_stay = unchanged_part _ _ (omega arith) (omega arith) k.below

  mark : (c : ℕ) → c < z.channels → at w FROM c ≡ at v FROM c
  mark c h = unchanged_at t.spared.marks FROM c (omega arith) (omega (arith, n.limits.few_channels))

  module _ (s : ℕ) (h : s < z.signals) where
    flag : at x SHUT_SIGNAL s ≡ at w SHUT_SIGNAL s
    flag = unchanged_at k.below SHUT_SIGNAL s (omega arith) (omega (arith, n.limits.few_signals))

    end : at x END s ≡ at w END s
    end = unchanged_at k.below END s (omega arith) (omega (arith, n.limits.few_signals))

    most : at w END s ≤ most_pairs
    most = omega (arith, (t.done s h).less.shorter, end_most n l s h)

    struck_list : {c : ℕ} → InList x s c → InList w s c
    struck_list {c} i = same_in_list (unchanged_sym signals_stay) s c (omega (arith, n.limits.few_signals)) (omega (arith, end, most)) i

  pub both_struck : Struck z v x
  both_struck =
      record {
        input = unchanged_trans (unchanged_part _ _ (omega arith) (omega arith) k.below) t.spared.input;
        mates = unchanged_trans (unchanged_part _ _ (omega arith) (omega arith) k.below) t.spared.mates;
        cleared = k.cleared;
        shut_signal = λ s h q. flag s h ∙ (t.done s h).shut q;
        open_signal = λ s h q. flag s h ∙ (t.done s h).as_it_was q;
        shut_channel = λ c h q. k.shut c h (omega (arith, mark c h));
        open_channel = λ c h q.
            k.as_it_was c h (mark c h ∙ q) ∙ unchanged_at t.spared.marks SHUT_CHANNEL c (omega arith) (omega (arith, n.limits.few_channels));
        shorter = λ s h. omega (arith, end s h, (t.done s h).less.shorter);
        order = λ s h.
            omega (arith, end s h, unchanged_at k.below START s (omega arith) (omega (arith, n.limits.few_signals)), (t.done s h).less.order);
        only = λ s c h i. (t.done s h).less.only c (struck_list s h i);
        struck = λ s c h i q. (t.done s h).struck c (struck_list s h i) q;
        kept = λ s c h i q. same_in_list signals_stay s c (omega (arith, n.limits.few_signals)) (most s h) ((t.done s h).kept c i q);
      }

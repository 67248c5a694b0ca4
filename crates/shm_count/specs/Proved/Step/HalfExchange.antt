-- the exchange of the header in a half of a count step: it finds the header that was read, or reads another one
use Rattle.std.proofs.Common.{◌≡◌, ◌≢◌, ℕ, ◌-◌, ◌^◌, ◌<◌, refl, sym, ap, ◌∙◌, subst, arith, Bool, true, false, cond, eqb, inl, inr, ◌⊎◌}
use Rattle.std.proofs.lemmas.Bool.{eq-eqb, ne_eqb, cases_eq}
use Rattle.std.specs.List.{Contains}
use Rattle.shm_words.specs.{Headers.{HeaderFits, header_of}, declared.geometry.Geometry.Geometry, Layout.GeometryFits}
use Rattle.shm_words.proofs.Words.{header_word_small, header_of-word, header_fits}
use Rattle.shm_graph.specs.declared.{ask.{Ask.{Ask, TheVariants.Exchange}, Me.Me}, spot.Spot.Spot, memo.Memo.Memo}
use Rattle.shm_graph.specs.{declared.memo.Op.Op, Laws.{framed, Frame, Stands, KeptAt}, Spots.spot_at, Views.view}
use Rattle.shm_graph.specs.{Changes.{with_call, called, with_end}, MemoAfterRead.read_on}
use Rattle.shm_graph.specs.{MemoAfterExchange.{exchanged_on, committed}, Reach.shown, Asks.Trail, Agents.recovers}
use Rattle.shm_graph.specs.{Blocks.classes, Held.{HeldAt, is_loose}, Core.core}
use Rattle.shm_graph.specs.declared.spot.Spot.TheVariants as spot
use Rattle.shm_graph.proofs.Memos.MemoSteps.{recovers_on}
use Rattle.kind_parts.specs.{Raising.{is_read, IsReparted}, Reparting.{TableStep, Begins}}
use Rattle.kind_parts.proofs.{Partitions.Laws.begun_reparted, BodyLoads.header_lost, RaiseBlock.block_raised}
use Rattle.kind_parts.proofs.{ChangeLowered.change_lowered, PartsSet.reparted_unread, LowerBlock.block_lowered}
use Rattle.kind_parts.proofs.{ChangeRaised.change_raised, KeptAfter.kept_going, Cores.{header_core, here_same}}
use Rattle.shm_count.specs.declared.point.{Half.{TheVariants.{First, Second}, Half}, Aim.TheVariants.{Down, Up, Change}}
use Rattle.shm_count.specs.declared.point.{Aim.Aim, StepNext.StepNext}
use Rattle.shm_count.specs.Step.{begun_op, InHalf, CanStep, HasRead, NextHolds, set_memo, IsShown, IsDyingWord}
use Rattle.shm_count.specs.Step.Control.{value_before, value_after, CountFits, EraFits, header_after, PartFits, block_at, committed_next, header_next, count_after, raises, exchange_next}
use Rattle.shm_count.specs.Proved.Step.Memos.{first_reach, half_same, half_status, half_op}
use Rattle.shm_count.specs.Proved.Step.{Headers.{header_has, header_found, half_block}, Parts.first_sight}
use Rattle.shm_count.specs.Proved.{Step.Cores.PointKeeps, DyingBlocks.dying_reparted}
use Rattle.shm_count.specs.declared.point.StepPoint.TheVariants as point

-- ---- the header that the block comes to have

-- an era is below the greatest
era_small : (x : Aim) (e : ℕ) (h : Half) → EraFits x e h → e < 2 ^ 47
era_small (Up b) e h l = omega arith
era_small (Down b) e h l = omega arith
era_small (Change a b) e First l = omega arith
era_small (Change a b) e Second l = omega arith

-- a count that changes has ten bits
count_small : (up : Bool) (n : ℕ) → n < 1024 → (up ≡ true → n ≢ 1023) → count_after up n < 1024
count_small true n l room = let u = room refl in omega arith
count_small false n l room = omega arith

-- the header has a word
made_fits : (me : Me) (x : Aim) (e : ℕ) (h : Half) (k : ℕ) → GeometryFits me.geometry → me.who < me.geometry.clients → EraFits x e h → CountFits x h k → HeaderFits (record { live = true; client = me.who; count = count_after (raises x h) (header_of k).count; era = e })
made_fits me x e h k fits who era count =
    record {
      client = (let u = fits.clients in omega arith);
      count = count_small (raises x h) (header_of k).count (header_fits k).count count;
      era = era_small x e h era;
    }

-- ---- it is found

-- no partition is read from a word of a zero-count block
word_reparted : (g : Geometry) (w : Spot → ℕ) (r : ℕ → Memo) (c : ℕ) (x : Aim) (p : Spot) (b : ℕ) (m : Memo) → HeldAt g w (view r) → c < g.clients → (r c).dying ≡ m.dying → IsDyingWord g.wide m x p → IsReparted g w (view r) c (r c) p b
word_reparted g w r c (Down a) (spot.Body d i) b m h l same y = dying_reparted g w r c d h l (subst (λ ds. Contains ds d) (sym same) y) i b
word_reparted g w r c x p b m h l same y = absurd y

module _ (me : Me) (slot : ℕ) (p : Spot) (r0 : Memo) (w : Spot → ℕ) (r : ℕ → Memo) (f : Frame) (tr : Trail) (e k : ℕ) (st : Stands me w r f tr) (going : f.fresh ≡ false) where
  -- a block is raised, in the first half of a step
  first_part : (x : Aim) → InHalf me slot x p r0 (r me.who) e First → (r me.who).part ≡ r0.part
  first_part x half = ap (λ (y : Memo). y.part) half.1.rest

  first_values : (x : Aim) → InHalf me slot x p r0 (r me.who) e First → (r me.who).values ≡ r0.values
  first_values x half = ap (λ (y : Memo). y.values) half.1.rest

  -- the step that has begun changes the slot's word
  begins_word : (x : Aim) → Begins (begun_op x p e) p (value_before x) (value_after x)
  begins_word (Up b) = (refl, refl, refl)
  begins_word (Down b) = (refl, refl, refl)
  begins_word (Change a b) = (refl, refl, refl)

  -- the partition that the memo has is the one that the new targets hold
  part_kept : (x : Aim) → CanStep me slot x p r0 → InHalf me slot x p r0 (r me.who) e First → IsReparted me.geometry w (view r) me.who (r me.who) p (value_after x)
  part_kept x can half =
      elim can.part [
        | inl n ↦ reparted_unread me.geometry w (view r) me.who (r me.who) p (value_after x) (ap (λ y. is_read y p) (first_part x half) ∙ n)
        | inr (inl d) ↦ word_reparted me.geometry w r me.who x p (value_after x) r0 st.held st.who (ap (λ (y : Memo). y.dying) half.1.rest) d
        | inr (inr s) ↦ begun_reparted me.geometry w r me.who st.held st.who p (value_before x) (value_after x)
            (subst (λ (o : Op). Begins o p (value_before x) (value_after x)) (sym (ap (λ (y : Memo). y.op) half.1.rest)) (begins_word x))
            (subst (λ y. TableStep me.geometry.wide me.who y p (value_before x) (value_after x)) (sym (first_sight me slot x p r0 (r me.who) e half)) s)
      ]

  -- a header that is found becomes the one of the step
  exchange_kept : (x : Aim) (h : Half) → CanStep me slot x p r0 → EraFits x e h → PartFits x h → CountFits x h k → InHalf me slot x p r0 (r me.who) e h → HasRead me.who me.geometry.clients (r me.who) k → IsShown me.who (r me.who) k → w (spot.Head (block_at x h)) ≡ k
      → KeptAt me w r (Exchange (block_at x h) k (header_after me x e h k)) f (λ n m. Unit {0}) (spot_at me.geometry (classes w) (block_at x h))
  exchange_kept (Up b) First can era part count half read shown found =
      let x : Aim = Up b in
      let made = made_fits me x e First k can.geometry can.who era count in
      block_raised me w r f tr b b e k (header_after me x e First k) p st found
      (record {
        here = here_same r0 (r me.who) (half_status me slot p r0 (r me.who) e x First can era part half) can.here;
        op = half_op me slot p r0 (r me.who) e x First can era part half;
        reach = first_reach me slot x p r0 (r me.who) e b can.idle half ∙ can.reach refl;
        small = header_word_small _ made;
        new = header_of-word _ made;
        shows = shown;
        queued = λ l s. subst (λ vs. Contains vs b) (sym (first_values x half)) (can.queued (ap is_loose (sym (first_part x half)) ∙ l) s refl);
      })
      (part_kept x can half) going (half_block me slot p r0 w r e st.held st.who x First can era part half)
  exchange_kept (Down b) First can era part count half read shown found =
      let x : Aim = Down b in
      let n : ℕ = (header_of k).count - 1 in
      let made = made_fits me x e First k can.geometry can.who era count in
      let some = read.counted in
      block_lowered me w r f tr b b e n k (header_after me x e First k) p st found
      (record {
        here = here_same r0 (r me.who) (half_status me slot p r0 (r me.who) e x First can era part half) can.here;
        op = half_op me slot p r0 (r me.who) e x First can era part half;
        small = header_word_small _ made;
        new = header_of-word _ made;
        lower = omega arith;
        shows = shown;
      })
      (part_kept x can half) going (half_block me slot p r0 w r e st.held st.who x First can era part half)
  exchange_kept (Change a b) First can era part count half read shown found =
      let x : Aim = Change a b in
      let made = made_fits me x e First k can.geometry can.who era count in
      change_raised me w r f tr b a b e k (header_after me x e First k) p st found
      (record {
        here = here_same r0 (r me.who) (half_status me slot p r0 (r me.who) e x First can era part half) can.here;
        op = half_op me slot p r0 (r me.who) e x First can era part half;
        reach = first_reach me slot x p r0 (r me.who) e b can.idle half ∙ can.reach refl;
        small = header_word_small _ made;
        new = header_of-word _ made;
        shows = shown;
      })
      (part_kept x can half) going (half_block me slot p r0 w r e st.held st.who x First can era part half)
  exchange_kept (Change a b) Second can era part count half read shown found =
      let x : Aim = Change a b in
      let n : ℕ = (header_of k).count - 1 in
      let made = made_fits me x e Second k can.geometry can.who era count in
      let some = read.counted in
      change_lowered me w r f tr a a b e n k (header_after me x e Second k) p st found
      (record {
        here = here_same r0 (r me.who) (half_status me slot p r0 (r me.who) e x Second can era part half) can.here;
        op = half_op me slot p r0 (r me.who) e x Second can era part half;
        small = header_word_small _ made;
        new = header_of-word _ made;
        lower = omega arith;
        shows = shown;
      })
      going (half_block me slot p r0 w r e st.held st.who x Second can era part half)
  exchange_kept (Up b) Second can era part count half read shown found = absurd part
  exchange_kept (Down b) Second can era part count half read shown found = absurd part

-- what comes next once it was found, by what the exchange made of the memo
found_next : (me : Me) (slot : ℕ) (x : Aim) (p : Spot) (r0 q m : Memo) (e k : ℕ) (h : Half) → PartFits x h → recovers m ≡ recovers r0 → InHalf me slot x p r0 q e h → (header_of k).count ≢ 0 → core m ≡ core (set_memo me x p e h q k) → NextHolds me slot x p r0 m (committed_next x e h k)
found_next me slot x p r0 q m e k First part agent half some same = record { agent = agent; has = (q, k, half, some, same, refl) }
found_next me slot (Change a b) p r0 q m e k Second part agent half some same = record { agent = agent; has = (q, k, half, some, same, refl) }
found_next me slot (Up b) p r0 q m e k Second part agent half some same = absurd part
found_next me slot (Down b) p r0 q m e k Second part agent half some same = absurd part

-- ---- the step

-- a header is exchanged
pub exchange_step : (me : Me) (slot : ℕ) (x : Aim) (p : Spot) (r0 : Memo) (w : Spot → ℕ) (r : ℕ → Memo) (f : Frame) (tr : Trail) (e : ℕ) (h : Half) (k : ℕ) → PointKeeps me slot x p r0 w r f tr (point.Exchange e h k)
exchange_step me slot x p r0 w r f tr e h k st going can fits y = by (cases_eq n k)
  where
    c : ℕ
    c = me.who

    b : ℕ
    b = block_at x h

    to : ℕ
    to = header_after me x e h k

    a : Ask
    a = Exchange b k to

    s : Spot
    s = spot.Head b

    m : Memo
    m = r c

    -- the header that is found
    n : ℕ
    n = w s

    half : InHalf me slot x p r0 m e h
    half = y.has.0

    i : spot_at me.geometry (classes w) b ≡ s
    i = half_block me slot p r0 w r e st.held st.who x h can fits.0 fits.1 half

    -- the memo at the step
    N : Memo
    N = called m (framed me a (record f { fresh = false }) n)

    half_there : InHalf me slot x p r0 N e h
    half_there = half_same me slot x p r0 m N e h refl half

    -- the memo after it, and what comes next
    left : Bool → Memo
    left z = with_end f.ends (with_call N (cond z (exchanged_on me.geometry.wide c N s to) (read_on me.geometry c false N m.test s n)))

    next : Bool → StepNext
    next z = cond z (committed_next x e h k) (header_next me x e h n)

    agent : recovers (left (eqb n k)) ≡ recovers r0
    agent = recovers_on m (framed me a (record f { fresh = false }) n) s ∙ y.agent

    by : (n ≡ k) ⊎ (n ≡ k → ⊥) → KeptAt me w r a f (λ n r'. NextHolds me slot x p r0 r' (exchange_next me x e h k n)) (spot_at me.geometry (classes w) b)
    by (inl u) =
        kept_going me w r a f (λ n r'. NextHolds me slot x p r0 r' (exchange_next me x e h k n)) s going i
        (exchange_kept me slot p r0 w r f tr e k st going x h can fits.0 fits.1 fits.2 half y.has.1 y.has.2 u)
        (subst (λ z. NextHolds me slot x p r0 (left z) (next z)) (sym (eq-eqb n k u))
        (found_next me slot x p r0 N (left true) e k h fits.1 (subst (λ z. recovers (left z) ≡ recovers r0) (eq-eqb n k u) agent) half_there y.has.1.counted
        (ap (λ o. core (committed me.geometry.wide c N o to)) (half_op me slot p r0 m e x h can fits.0 fits.1 half))))
    by (inr u) =
        kept_going me w r a f (λ n r'. NextHolds me slot x p r0 r' (exchange_next me x e h k n)) s going i
        (header_lost me w r f tr b k to b st i u)
        (subst (λ z. NextHolds me slot x p r0 (left z) (next z)) (sym (ne_eqb n k u))
        (header_found me slot p r0 m (left false) e n x h can fits.0 fits.1 y.agent half
        (subst (λ z. recovers (left z) ≡ recovers r0) (ne_eqb n k u) agent)
        (header_core me a (record f { fresh = false }) m b n false)
        (header_has me slot p r0 w r e st.held st.who x h (left false) can fits.0 fits.1 half (0, omega arith, refl))))

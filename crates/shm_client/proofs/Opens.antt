-- identities that may run each command: how they come to be so, and stay so
use Rattle.std.proofs.Common.{◌≡◌, ◌≢◌, ℕ, zero, suc, ◌^◌, ◌<◌, inl, inr, Bool, true, false, sym, ap, ◌∙◌, subst, arith, refl}
use Rattle.std.proofs.lemmas.Bool.{and_from, cases_eq, eq-eqb, lt-ltb}
use Rattle.std.specs.Prelude.{slice_index}
use Rattle.shm_words.specs.{declared.geometry.Geometry.Geometry, Layout.{GeometryFits, address, total_of}}
use Rattle.shm_words.specs.declared.place.Place.TheVariants as place
use Rattle.shm_graph.specs.declared.{memo.{Kind.TheVariants.Client, Memo.Memo}, run.Start.Start}
use Rattle.shm_graph.specs.{declared.spot.Spot.TheVariants.Era, Agents.{acts, entered, recovers}, Asks.Trail}
use Rattle.shm_graph.specs.{Held.is_loose, Idle.IsIdle, Runs.first_memo, Spots.{IsAt, classes_in, spot_address}}
use Rattle.shm_graph.specs.Views.{own_word}
use Rattle.shm_graph.proofs.Spots.{Fixed.fixed_is_at, Seeing.see_there, Spotting.at_below}
use Rattle.shm_graph.proofs.States.FirstHeld.{same_everywhere}
use Rattle.shm_plain.specs.{Calls.{IsAtWork, Ran}, Pools.{Pool, IsRun, memo_of}}
use Rattle.shm_count.specs.{Roots.member, Waiting.LeavesQueues}
use Rattle.shm_recover.specs.{Join.{JoinGives, join_fresh}, Leave.MayLeave, Proved.Leave.Gone.idle_may_leave}
use Rattle.shm_script.specs.{declared.line.Line.Line, Ranges.LineFits}
use Rattle.shm_script.specs.declared.line.Line.TheVariants as line
use Rattle.shm_table.specs.{Commands.MayCommand, Locate.MayLocate, Staying.Ended}
use Rattle.shm_client.specs.Running.{AreOpen, IsOpen, LeavesOpen, MayRun}

-- ---- how they come to be so

-- once it has joined a pool for tables for the first time
pub open_join : (s : Start) (g : Geometry) (c : ℕ) (p : Pool) (m0 : Memo) (tr : Trail) → s.tables ≡ true → m0 ≡ entered Client (first_memo s c) → JoinGives (join_fresh (member g c)) m0 (memo_of p c) tr tt → IsAtWork c p → recovers (memo_of p c) ≡ false → IsOpen c p
open_join s g c p m0 tr tables e gives work client =
    let x = subst (λ (z : Memo). JoinGives (join_fresh (member g c)) z (memo_of p c) tr tt) e gives in
    record {
      work = work;
      client = client;
      table = ap (λ (z : Memo). is_loose z.part) x.rest ∙ ap (λ (b : Bool). is_loose (first_memo (record s { tables = b }) c).part) tables;
      latch = ap (λ (z : Memo). z.latch) x.rest;
      dying = ap (λ (z : Memo). z.dying) x.rest;
      unsent = λ i. ap (λ (z : Memo). slice_index z.unsent i) x.rest ∙ same_everywhere s.geometry.clients i 0;
      untaken = λ i. ap (λ (z : Memo). slice_index z.untaken i) x.rest ∙ same_everywhere s.geometry.clients i 0;
    }

-- ---- how they stay so

-- a call of another identity leaves it so
pub open_other : (c d : ℕ) (fresh answered : Bool) (p q : Pool) (x y : ℕ) → IsOpen c p → c ≢ d → Ran d fresh answered p q x y → IsOpen c q
open_other c d fresh answered p q x y h n ran =
    let same = ran.others c n in
    record {
      work = record {
        geometry = subst (λ (s : Start). GeometryFits s.geometry) (sym ran.start) h.work.geometry;
        who = subst (λ (s : Start). c < s.geometry.clients) (sym ran.start) h.work.who;
        idle = subst (λ (m : Memo). IsIdle c m) (sym same) h.work.idle;
        acts = ap acts same ∙ h.work.acts;
      };
      client = ap recovers same ∙ h.client;
      table = ap (λ (m : Memo). is_loose m.part) same ∙ h.table;
      latch = ap (λ (m : Memo). m.latch) same ∙ h.latch;
      dying = ap (λ (m : Memo). m.dying) same ∙ h.dying;
      unsent = λ j. ap (λ (m : Memo). slice_index m.unsent j) same ∙ h.unsent j;
      untaken = λ j. ap (λ (m : Memo). slice_index m.untaken j) same ∙ h.untaken j;
    }

-- its own command does, where its own era isn't near the greatest
pub open_after : (c : ℕ) (p q : Pool) → IsOpen c p → IsAtWork c q → recovers (memo_of q c) ≡ recovers (memo_of p c) → LeavesOpen (memo_of p c) (memo_of q c) → Ended c (memo_of p c) (memo_of q c) → own_word (memo_of q c).own (Era c c) < 1000000 → IsOpen c q
open_after c p q h work kind rests ended low =
    record {
      work = work;
      client = kind ∙ h.client;
      table = rests.loose ∙ h.table;
      latch = rests.latch;
      dying = elim ended [ inl x ↦ x.dying ∙ h.dying | inr s ↦ (let a = s.1.0 in let b = s.1.1 in absurd (omega arith)) ];
      unsent = λ j. rests.unsent j ∙ h.unsent j;
      untaken = λ j. rests.untaken j ∙ h.untaken j;
    }

-- and a call on its queues by which no count comes to 0
pub open_queues : (c : ℕ) (p q : Pool) → IsOpen c p → IsAtWork c q → recovers (memo_of q c) ≡ recovers (memo_of p c) → LeavesQueues (memo_of p c) (memo_of q c) → (memo_of q c).dying ≡ (memo_of p c).dying → IsOpen c q
open_queues c p q h work kind left dying =
    record {
      work = work;
      client = kind ∙ h.client;
      table = left.loose ∙ h.table;
      latch = left.latch ∙ h.latch;
      dying = dying ∙ h.dying;
      unsent = λ j. left.unsent j ∙ h.unsent j;
      untaken = λ j. left.untaken j ∙ h.untaken j;
    }

-- ---- what they may do

may_command : (c key : ℕ) (p : Pool) → IsOpen c p → key < 2 ^ 32 → MayCommand (member p.start.geometry c) key (memo_of p c)
may_command c key p h small = record { geometry = h.work.geometry; who = h.work.who; idle = h.work.idle; client = h.client; none = h.latch; table = h.table; small = small }

may_locate : (c a : ℕ) (p : Pool) → IsOpen c p → a < p.start.geometry.clients → MayLocate (member p.start.geometry c) a (memo_of p c)
may_locate c a p h author = record { geometry = h.work.geometry; who = h.work.who; author = author; idle = h.work.idle; none = h.latch; table = h.table }

-- ---- the own era

era_at : (p : Pool) (c : ℕ) → c < p.start.geometry.clients → IsAt p.start.geometry (classes_in p.start.geometry p.words) (Era c c)
era_at p c l = fixed_is_at p.start.geometry (classes_in p.start.geometry p.words) (Era c c) refl (and_from _ _ (lt-ltb c p.start.geometry.clients l) (lt-ltb c p.start.geometry.clients l))

pub era_below : (p : Pool) (c : ℕ) → c < p.start.geometry.clients → address p.start.geometry (place.Era c c) < total_of p.start.geometry
unfolding spot_address
era_below p c l = at_below p.start.geometry (classes_in p.start.geometry p.words) (Era c c) (era_at p c l)

-- its word is that of the memo
pub era_read : (p : Pool) (c : ℕ) → IsRun p → c < p.start.geometry.clients → own_word (memo_of p c).own (Era c c) ≡ slice_index p.words (address p.start.geometry (place.Era c c))
unfolding spot_address
era_read p c run l = run.held.at.mine c l (Era c c) (eq-eqb c c refl) ∙ see_there p.start.geometry p.words (Era c c) (era_at p c l)

-- ---- all identities of a small pool

pub all_of_one : (q : Pool) → q.start.geometry.clients ≡ 1 → IsOpen 0 q → AreOpen q
all_of_one q n a zero l = a
all_of_one q n a (suc d) l = absurd (omega arith)

pub all_of_two : (q : Pool) → q.start.geometry.clients ≡ 2 → IsOpen 0 q → IsOpen 1 q → AreOpen q
all_of_two q n a b zero l = a
all_of_two q n a b (suc zero) l = b
all_of_two q n a b (suc (suc d)) l = absurd (omega arith)

-- once one of them has run a command
pub all_after : (c : ℕ) (p q : Pool) (fresh answered : Bool) (x y : ℕ) → AreOpen p → Ran c fresh answered p q x y → IsOpen c q → AreOpen q
all_after c p q fresh answered x y all ran own d l =
    elim (cases_eq d c) [
      | inl e ↦ subst (λ i. IsOpen i q) (sym e) own
      | inr n ↦ open_other d c fresh answered p q x y (all d (subst (λ (s : Start). d < s.geometry.clients) ran.start l)) n ran
    ]

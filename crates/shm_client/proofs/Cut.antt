-- calls that are cut off: what stays on the way of the machine stays
use Rattle.std.proofs.Common.{◌≡◌, ℕ, ◌<◌, Bool, true, false, cond, refl, ap, ◌∙◌, sym, subst, length}
use Rattle.std.specs.{Prelude.{Option, Some, None, IfSome}, Option.is_some}
use Rattle.shm_graph.specs.{declared.{memo.Memo.Memo, run.Start.Start}, Agents.{acts, entered}}
use Rattle.shm_graph.specs.{Asks.{Trail, call_before}, Laws.Control, Whole.fits_now}
use Rattle.kind_parts.specs.Reparting.{map_in}
use Rattle.shm_count.specs.Steady.{SameMap}
use Rattle.shm_plain.specs.{Pools.{IsRun, Pool, memo_of, readied}, Tracks.kind_next}
use Rattle.shm_plain.proofs.Turning.{ready_memo}

-- the agent that begins finds the partition that is there
ready_part : (p : Pool) (c : ℕ) → c < length p.accounts → (memo_of (readied p c) c).part ≡ (memo_of p c).part
ready_part p c l = ap (λ (m : Memo). m.part) (ready_memo p c l) ∙ go (acts (memo_of p c))
  where
    m : Memo
    m = memo_of p c

    go : (b : Bool) → (cond b m (entered (kind_next m) m)).part ≡ m.part
    go true = refl
    go false = refl

-- there is an account for each identity
pub long : (c : ℕ) (p q : Pool) → q.start ≡ p.start → IsRun q → c < p.start.geometry.clients → c < length q.accounts
long c p q start run who = subst (λ (n : ℕ). c < n) (sym run.held.accounts) (subst (λ (s : Start). c < s.geometry.clients) (sym start) who)

-- a machine that is not finished, and leaves the map as it was wherever it fits, has left it so
pub cut_map : {M A : Type 0} (k : Control M A) (fits : M → Memo → Memo → Trail → Type 0) → ((m : M) (r0 r : Memo) (tr : Trail) → k.finished m ≡ false → fits m r0 r tr → SameMap r0 r)
    → (n : M) (r0 : Memo) (q : Pool) (c : ℕ) → c < length q.accounts → k.finished n ≡ false → fits_now k fits n r0 (memo_of (readied q c) c) → map_in (memo_of q c).part ≡ map_in r0.part
cut_map k fits steady n r0 q c l going fit =
    let r : Memo = memo_of (readied q c) c in
    ap map_in (sym (ready_part q c l)) ∙ (steady n r0 r (call_before (k.fresh n) r.call) going fit).0

-- what holds where it answered, and where it was cut off
pub either_way : {A : Type 0} (P : Type 0) (o : Option A) → IfSome o (λ a. P) → (is_some o ≡ false → P) → P
either_way P None h f = f refl
either_way P (Some a) h f = h

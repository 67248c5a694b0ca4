-- a pool for tables stays one, whatever its identities do
use Rattle.std.proofs.Common.{◌≡◌, ℕ, ◌+◌, ◌<◌, Bool, true, false, cond, List, [], ◌∷◌, ◌++◌, refl, sym, ap, ◌∙◌, subst}
use Rattle.std.specs.{Prelude.{◌==◌, ◌||◌, Option, Some, None, eqb, nat_le}, List.{filter, list_any}}
use Rattle.shm_words.specs.{declared.geometry.Geometry.Geometry, Headers.header_of}
use Rattle.shm_graph.specs.declared.ask.Ask.{Ask, TheVariants.{Load, Store, Exchange}}
use Rattle.shm_graph.specs.declared.memo.{ChangeStage.TheVariants.{Raising, Lowering}, Fact.TheVariants.Class}
use Rattle.shm_graph.specs.declared.memo.First.TheVariants.{Begun, Committed, Written}
use Rattle.shm_graph.specs.declared.memo.{Second.TheVariants.{Open, Closed}, Memo.Memo, Op.Op, Step.Step, Stored.Stored}
use Rattle.shm_graph.specs.declared.{memo.Test.Test, run.{Account.Account, Move.Move}}
use Rattle.shm_graph.specs.declared.{run.{Move.TheVariants.{Word, Dies, Begins}, Start.Start}, spot.Spot.Spot}
use Rattle.shm_graph.specs.{declared.table.Part.{Part, TheVariants.{Loose, Table}}, Chains.part_set}
use Rattle.shm_graph.specs.Changes.{asked_spot, called, changed_by, forgotten, memo_on, test_before}
use Rattle.shm_graph.specs.MemoAfterExchange.{committed, cut, exchanged_on, lowered, reparted, with_unsent, with_untaken, without_made}
use Rattle.shm_graph.specs.{Held.is_loose, MemoAfterRead.{is_latched, read_on, reference_read, values_read, word_read}}
use Rattle.shm_graph.specs.Reach.{is_dying, learnt, shown}
use Rattle.shm_graph.specs.Runs.{Leads, State, Stood, account_after, account_at, account_died, account_entered, first_part, first_state, memos_of, moved}
use Rattle.shm_graph.specs.MemoAfterStore.{era_stored, is_lowering, not_block, op_closed, stored_on, with_own, without_looks}
use Rattle.shm_graph.specs.Telling.{Claim, claim_of}
use Rattle.shm_graph.specs.declared.memo.Op.TheVariants as op
use Rattle.shm_graph.specs.declared.spot.Spot.TheVariants as spot
use Rattle.shm_graph.proofs.{Runs.Lists.account_part, States.FirstHeld.first_memo_of}

abbrev loose : Memo → Bool
loose m = is_loose m.part

pick : (b : Bool) (m n : Memo) (z : Bool) → loose m ≡ z → loose n ≡ z → loose (cond b m n) ≡ z
pick true m n z x y = x
pick false m n z x y = y

-- ---- a word step

word_kept : (m : Memo) (k : Option Claim) (b i seen : ℕ) → loose (word_read m k b i seen) ≡ loose m
word_kept m None b i seen = refl
word_kept m (Some k) b i seen =
    let known : Memo = record m { known = learnt (spot.Body b i) seen m.known } in
    let looks : Memo = record m { looks = m.looks ++ record { block = seen; from = spot.Body b i } ∷ []; known = learnt (spot.Body b i) seen m.known; values = values_read m b i seen } in
    pick (is_dying m b || nat_le k.refs i) known (cond (is_latched k.author m.latch) (reference_read m b i seen) m) (loose m) refl
    (pick (is_latched k.author m.latch) (reference_read m b i seen) m (loose m) (pick (seen == 0) known looks (loose m) refl refl) refl)

read_kept : (g : Geometry) (c : ℕ) (load : Bool) (m : Memo) (test : Option Test) (p : Spot) (seen : ℕ) → loose (read_on g c load m test p seen) ≡ loose m
read_kept g c load m test (spot.Hold d) seen = pick _ _ m (loose m) refl refl
read_kept g c load m test (spot.Home a) seen = pick _ _ m (loose m) refl refl
read_kept g c load m test (spot.Era i j) seen = pick _ _ _ (loose m) refl refl
read_kept g c load m test (spot.Slot s r k) seen = pick _ _ m (loose m) refl refl
read_kept g c load m test (spot.Page s q) seen =
    let zeros : Memo = record m { zeros = spot.Page s q ∷ m.zeros } in
    let facts : Memo = record m { facts = Class s q seen ∷ m.facts } in
    let z : Bool = list_any (eqb s) m.owned in
    pick (seen == 0) (cond z zeros m) facts (loose m) (pick z zeros m (loose m) refl refl) refl
read_kept g c load m test (spot.Body b i) seen = word_kept m (claim_of g.wide c m (b + 2 + i)) b i seen
read_kept g c load m test (spot.Tail s r) seen = refl
read_kept g c load m test (spot.QueueHead s r) seen = refl
read_kept g c load m test (spot.Head b) seen = refl
read_kept g c load m test (spot.Tag b) seen = refl
read_kept g c load m test p seen = refl

stored_kept : (g : Geometry) (c : ℕ) (m : Memo) (p : Spot) (v : ℕ) → loose (stored_on g c m p v) ≡ loose m
stored_kept g c m (spot.Status d) v = pick _ _ _ (loose m) refl refl
stored_kept g c m (spot.Era i j) v =
    let n : Memo = record (with_own m (spot.Era i j) v) { op = op_closed m.op v } in
    pick (j == c) (era_stored c m (spot.Era i j) v) (with_own m (spot.Era i j) v) (loose m) (pick (is_lowering m.op) (without_looks c n) n (loose m) refl refl) refl
stored_kept g c m (spot.Tag b) v = pick _ _ _ (loose m) refl refl
stored_kept g c m (spot.Body b i) v = pick _ _ _ (loose m) refl refl
stored_kept g c m p v = refl

part_kept : (known : List Stored) (c home : ℕ) (p : Spot) (x : ℕ) (part : Part) → is_loose (part_set known c home p x part) ≡ is_loose part
part_kept known c home p x Loose = refl
part_kept known c home p x (Table ess) = refl

unsent_kept : (c : ℕ) (p : Spot) (b : ℕ) (m : Memo) → loose (with_unsent c p b m) ≡ loose m
unsent_kept c (spot.Slot s r k) b m = pick _ _ m (loose m) refl refl
unsent_kept c p b m = refl

untaken_kept : (c : ℕ) (p : Spot) (b : ℕ) (m : Memo) → loose (with_untaken c p b m) ≡ loose m
untaken_kept c (spot.Slot s r k) b m = pick _ _ m (loose m) refl refl
untaken_kept c p b m = refl

lowered_kept : (n b : ℕ) (m : Memo) → loose (lowered n b m) ≡ loose m
lowered_kept n b m = pick _ _ m (loose m) refl refl

committed_kept : (wide : Bool) (c : ℕ) (m : Memo) (o : Op) (to : ℕ) → loose (committed wide c m o to) ≡ loose m
committed_kept wide c m (op.Up Begun p b e) to =
    let n : Memo = record m { op = op.Up Committed p b e; made = without_made m b } in
    let q : Memo = with_unsent c p b n in
    part_kept q.known c (shown q (spot.Home c)) p b q.part ∙ unsent_kept c p b n
committed_kept wide c m (op.Down Begun p b e) to =
    let n : Memo = record m { op = op.Down Committed p b e; made = without_made m b } in
    let q : Memo = with_untaken c p b (with_unsent c p 0 n) in
    lowered_kept (header_of to).count b (cut c p (reparted c q p 0)) ∙ (part_kept q.known c (shown q (spot.Home c)) p 0 q.part ∙ (untaken_kept c p b (with_unsent c p 0 n) ∙ unsent_kept c p 0 n))
committed_kept wide c m (op.Change (Raising Begun) p a b e) to =
    let n : Memo = record m { op = op.Change (Raising Committed) p a b e; made = filter (not_block a) (without_made m b) } in
    part_kept n.known c (shown n (spot.Home c)) p b n.part
committed_kept wide c m (op.Change (Lowering Open) p a b e) to =
    let n : Memo = record m { op = op.Change (Lowering Closed) p a b e; made = without_made m a } in
    lowered_kept (header_of to).count a (cut c p n)
committed_kept wide c m op.Nothing to = refl
committed_kept wide c m (op.Alloc Begun p b e) to = refl
committed_kept wide c m (op.Alloc Committed p b e) to = refl
committed_kept wide c m (op.Alloc Written p b e) to = refl
committed_kept wide c m (op.Up Committed p b e) to = refl
committed_kept wide c m (op.Up Written p b e) to = refl
committed_kept wide c m (op.Down Committed p b e) to = refl
committed_kept wide c m (op.Down Written p b e) to = refl
committed_kept wide c m (op.Change (Raising Committed) p a b e) to = refl
committed_kept wide c m (op.Change (Raising Written) p a b e) to = refl
committed_kept wide c m (op.Change (Lowering Closed) p a b e) to = refl

exchanged_kept : (wide : Bool) (c : ℕ) (m : Memo) (p : Spot) (to : ℕ) → loose (exchanged_on wide c m p to) ≡ loose m
exchanged_kept wide c m (spot.Head b) to = committed_kept wide c m m.op to
exchanged_kept wide c m p to = refl

called_kept : (m : Memo) (t : Step) → loose (called m t) ≡ loose m
called_kept m t = pick t.fresh (forgotten m) m (loose m) refl refl

changed_kept : (m : Memo) (t : Step) (p : Spot) (a : Ask) → loose (changed_by m t p a) ≡ loose m
changed_kept m t p (Load at) = read_kept t.me.geometry t.me.who true (called m t) (test_before m t) p t.seen ∙ called_kept m t
changed_kept m t p (Store at v) = stored_kept t.me.geometry t.me.who (called m t) p v ∙ called_kept m t
changed_kept m t p (Exchange at from to) =
    pick (t.seen == from) (exchanged_on t.me.geometry.wide t.me.who (called m t) p to) (read_on t.me.geometry t.me.who false (called m t) (test_before m t) p t.seen) (loose m)
    (exchanged_kept t.me.geometry.wide t.me.who (called m t) p to ∙ called_kept m t) (read_kept t.me.geometry t.me.who false (called m t) (test_before m t) p t.seen ∙ called_kept m t)

pub step_kept : (m : Memo) (t : Step) (p : Spot) → is_loose (memo_on m t p).part ≡ is_loose m.part
step_kept m t p = changed_kept m t p t.ask

-- ---- runs

moved_kept : (a : State) (m : Move) (c : ℕ) → loose (memos_of (moved a m).accounts c) ≡ loose (memos_of a.accounts c)
moved_kept a (Word t) c =
    let e : Account = account_at a.accounts t.me.who in
    account_part (λ (x : Account). loose x.memo) a.accounts t.me.who (account_after e t) c (step_kept e.memo t (asked_spot e.memo t))
moved_kept a (Dies d) c = account_part (λ (x : Account). loose x.memo) a.accounts d (account_died (account_at a.accounts d)) c refl
moved_kept a (Begins d k) c = account_part (λ (x : Account). loose x.memo) a.accounts d (account_entered k (account_at a.accounts d)) c refl

run_kept : (g : Geometry) (a : State) (ms : List Move) (b : State) → Leads g a ms b → (c : ℕ) → loose (memos_of b.accounts c) ≡ loose (memos_of a.accounts c)
run_kept g a [] b run c = ap (λ (s : State). loose (memos_of s.accounts c)) (sym run)
run_kept g a (m ∷ ms) b run c = run_kept g (moved a m) ms b run.2 c ∙ moved_kept a m c

-- where a pool was made for tables, each of its identities has one
pub has_table : (s : Start) (e : Account) → Stood s e → s.tables ≡ true → is_loose e.memo.part ≡ false
has_table s e x tables =
    let who : e.who < s.geometry.clients = subst (λ (n : ℕ). e.who < n) x.held.accounts x.here.0 in
    ap (λ (a : Account). is_loose a.memo.part) (sym x.here.1)
    ∙ (run_kept s.geometry (first_state s) x.turns (record { words = x.words; accounts = x.accounts }) x.leads e.who
    ∙ (ap loose (first_memo_of s e.who who) ∙ ap (λ (b : Bool). is_loose (first_part b)) tables))

-- what comes of calls on blocks: how it is put together, and what a caller reads off it
use Rattle.std.proofs.Common.{◌≡◌, ℕ, ◌≤◌, true, false, List, Result, Ok, Err, inl, inr, refl, sym, ap, ◌∙◌, subst, arith, MatchResult}
use Rattle.std.proofs.lemmas.Bool.{true≢false}
use Rattle.std.specs.Prelude.{Option, None, IfOk, IfErr}
use Rattle.shm_graph.specs.{declared.memo.Memo.Memo, Asks.Trail, Events.Event, Laws.Control, Reach.is_reached}
use Rattle.shm_count.specs.{Roots.root_word, Waiting.LeavesQueues}
use Rattle.shm_count.proofs.RootSpots.{roots_reached}
use Rattle.shm_pool.specs.{declared.reply.Reply.TheVariants.Died as Lost, Called.Rests, Calls.IsBetween, Doing.HasDone}
use Rattle.shm_pool.specs.Tokens.{Acting, Its}
use Rattle.lojarnek.specs.declared.error.Error.{Error}
use Rattle.lojarnek.specs.declared.error.Error.TheVariants.{CountFull, Died, EraSpent, Full, NoSuchWord, NotAuthor, QueueFull, RootsFull, WrongAuthor}
use Rattle.lojarnek.specs.{Refusing.is_death, Roots.{IsAtBlocks, IsNamed, KnowsRoots, account_root}}
use Rattle.lojarnek.specs.{Standing.{Acts, acts_of}, Blocks.{Denies, HasCome, IsBlockOf, IsRefusedFirst, IsWrongOn}}
use Rattle.lojarnek.specs.Tables.{SameClient, WasTested}
use Rattle.lojarnek.proofs.{Done.{died_now, done_same}, Ready.{dead_ready, ready_then}, Naming.knows_dead}
use Rattle.lojarnek.proofs.{Says.dead_before, Tested.{failed, tested_ran, tested_wrong}}

-- ---- the same client, from call to call

pub same_then : (c d e : Acts) → SameClient c d → SameClient d e → SameClient c e
same_then c d e h k = let x : d.left ≤ c.left = h.left in let y : e.left ≤ d.left = k.left in record { of = k.of ∙ h.of; who = k.who ∙ h.who; left = omega arith }

pub still_at : (t t' : Acting) (before left : ℕ) → IsAtBlocks t → SameClient (acts_of t before) (acts_of t' left) → t'.dead ≡ false → Rests t' → LeavesQueues t.account.memo t'.account.memo → IsAtBlocks t'
still_at t t' before left at same alive rests queues =
    record { ready = ready_then t t' at.ready at.alive rests queues; kind = ap (λ (p : Its). p.start.tables) same.of ∙ at.kind; alive = alive }

-- the roots of a client that is the same one
module _ (t t' : Acting) (who : t'.account.who ≡ t.account.who) where
  pub named_here : (k : ℕ) → account_root t'.account k ≡ root_word t.account.who t'.account.memo k
  named_here k = ap (λ (c : ℕ). root_word c t'.account.memo k) who

  pub roots_kept : ((k : ℕ) → root_word t.account.who t'.account.memo k ≡ root_word t.account.who t.account.memo k) → (k : ℕ) → account_root t'.account k ≡ account_root t.account k
  roots_kept h k = named_here k ∙ h k

-- a block that a root names is in reach
pub reached_by : (t : Acting) (b : ℕ) → IsBetween t.account → IsNamed b t → is_reached t.account.who t.account.memo b ≡ true
reached_by t b at n = roots_reached t.account.who t.account.memo at.idle.op n.root b n.low n.some n.named

pub named_reached : (t : Acting) (b : ℕ) → IsAtBlocks t → IsNamed b t → is_reached t.account.who t.account.memo b ≡ true
named_reached t b at n = reached_by t b (at.ready.rests.between at.alive) n

-- ---- what came

module _ {T : Type 0} (did : T → Type 0) (why : Error → Acts → Acts → Type 0) where
  -- the client died in an operation
  pub died_came : {M A : Type 0} {k : Control M A} {does : M → ℕ → Event} {leaves : M → Memo → Memo → Trail → List Event → A → Type 0} {ends : M → A → Type 0} {m : M} (t t' : Acting) (before after : ℕ) (bs : List ℕ) → t.dead ≡ false → HasDone k does leaves ends m t t' before after Lost → Rests t' → HasCome did why (acts_of t before) (acts_of t' after) bs (Err (Died false))
  died_came t t' before after bs alive h rests =
      record {
        same = done_same Lost alive h;
        ready = dead_ready t' rests (h.died.0 tt);
        knows = knows_dead t' bs (h.died.0 tt);
        dead = h.died.0 tt;
        done = died_now alive h;
      }

  -- it answered
  pub ok_came : (c c' : Acts) (bs : List ℕ) (x : T) → SameClient c c' → IsAtBlocks c'.token → KnowsRoots c'.token bs → did x → HasCome did why c c' bs (Ok x)
  ok_came c c' bs x same at knows h = record { same = same; ready = at.ready; knows = knows; dead = at.alive; done = h }

  -- it was refused
  pub err_came : (c c' : Acts) (bs : List ℕ) (e : Error) → SameClient c c' → IsAtBlocks c'.token → KnowsRoots c'.token bs → false ≡ is_death {T = T} (Err e) → Denies why c c' e → HasCome did why c c' bs (Err e)
  err_came c c' bs e same at knows lives h = record { same = same; ready = at.ready; knows = knows; dead = at.alive ∙ lives; done = h }

-- ---- what a caller reads off it

module _ {T : Type 0} (did : T → Type 0) (why : Error → Acts → Acts → Type 0) (c c' : Acts) (bs : List ℕ) (r : Result T Error) where
  pub came_ok : HasCome did why c c' bs r → IfOk r did
  came_ok h = by r h.done
    where
      by : (x : Result T Error) → MatchResult x did (Denies why c c') → IfOk x did
      by (Ok x) d = d
      by (Err e) d = tt

  pub came_err : HasCome did why c c' bs r → IfErr r (Denies why c c')
  came_err h = by r h.done
    where
      by : (x : Result T Error) → MatchResult x did (Denies why c c') → IfErr x (Denies why c c')
      by (Ok x) d = tt
      by (Err e) d = d

-- of a call with two clauses on what it answered
module _ {T : Type 0} (A B : T → Type 0) (why : Error → Acts → Acts → Type 0) (c c' : Acts) (bs : List ℕ) (r : Result T Error) where
  pub came_first : HasCome (λ x. A x × B x) why c c' bs r → IfOk r A
  came_first h = by r (came_ok (λ x. A x × B x) why c c' bs r h)
    where
      by : (x : Result T Error) → IfOk x (λ y. A y × B y) → IfOk x A
      by (Ok x) d = d.0
      by (Err e) d = tt

  pub came_second : HasCome (λ x. A x × B x) why c c' bs r → IfOk r B
  came_second h = by r (came_ok (λ x. A x × B x) why c c' bs r h)
    where
      by : (x : Result T Error) → IfOk x (λ y. A y × B y) → IfOk x B
      by (Ok x) d = d.1
      by (Err e) d = tt

-- a refusal, in other words
pub if_err_then : {T : Type 0} (P R : Error → Type 0) (r : Result T Error) → IfErr r P → ((e : Error) → P e → R e) → IfErr r R
if_err_then P R (Ok x) h f = tt
if_err_then P R (Err e) h f = f e h

if_alive : {T : Type 0} (c' : Acts) (r : Result T Error) → c'.token.dead ≡ is_death r → IfOk r (λ x. c'.token.dead ≡ false)
if_alive c' (Ok x) h = h
if_alive c' (Err e) h = tt

-- nothing was wrong, and the client lived
pub came_tested : {T : Type 0} (did : T → Type 0) (why : Error → Acts → Acts → Type 0) (w : Option Error) (c c' : Acts) (bs : List ℕ) (r : Result T Error) → w ≡ None → c.token.dead ≡ false → HasCome did why c c' bs r → WasTested w c c' r
came_tested did why w c c' bs r right alive h = tested_ran w c c' r right alive (if_alive c' r h.dead)

-- ---- refusals before the first word step

dead_tested : (T : Type 0) (w : Option Error) (c : Acts) (e : Error) → w ≡ None → e ≡ Died false → WasTested w c c (failed T e)
dead_tested T w c e none is = subst (λ (x : Option Error). WasTested x c c (failed T e)) (sym none) (record { wrong = tt; dead = λ right dead. (ap (failed T) is, refl); lives = tt })

pub first_tested : (T : Type 0) (w : Option Error) (c : Acts) (e : Error) → IsRefusedFirst w c e → WasTested w c c (failed T e)
first_tested T w c e h = elim h.is [ inl is ↦ tested_wrong T w c e (sym is) | inr x ↦ dead_tested T w c e x.0 x.2 ]

-- and such a refusal leaves what any does
pub first_denied : (why : Error → Acts → Acts → Type 0) (c : Acts) (e : Error) → IsWrongOn c e → Denies why c c e
first_denied why c (Died true) h = absurd (true≢false h.1)
first_denied why c (Died false) h = dead_before c c h.0 refl
first_denied why c (EraSpent e) h = absurd h
first_denied why c RootsFull h = absurd h
first_denied why c (Full s b) h = absurd h
first_denied why c (CountFull b n) h = absurd h
first_denied why c (QueueFull a) h = absurd h
first_denied why c (NoSuchWord j n) h = absurd h
first_denied why c (NotAuthor a) h = absurd h
first_denied why c (WrongAuthor a) h = absurd h
first_denied why c e h = (h, refl)

pub same_self : (c : Acts) → SameClient c c
same_self c = record { of = refl; who = refl; left = omega arith }

pub block_named : (k b : ℕ) (c : Acts) → IsBlockOf k b c → IsNamed b c.token
block_named k b c h = record { root = k; low = h.low; some = h.some; named = h.named }

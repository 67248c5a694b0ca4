-- what is read off any operation of a client that lived
use Rattle.std.proofs.Common.{◌≡◌, ℕ, ◌+◌, Bool, true, false, List, ◌++◌, length, refl, arith}
use Rattle.shm_graph.specs.{declared.memo.Memo.Memo, Asks.Trail, Events.Event, Laws.Control}
use Rattle.shm_pool.specs.{declared.reply.Reply.{Reply, TheVariants.{Died, Done}}, Doing.HasDone, Tokens.Acting}
use Rattle.lojarnek.specs.{Standing.acts_of, Tables.{IsDeadNow, SameClient}}

module _ {M A : Type 0} {k : Control M A} {does : M → ℕ → Event} {leaves : M → Memo → Memo → Trail → List Event → A → Type 0} {ends : M → A → Type 0} {m : M} {t t' : Acting} {before left : ℕ} where
  -- where it answered the client lives
  pub done_lives : (a : A) → HasDone k does leaves ends m t t' before left (Done a) → t'.dead ≡ false
  done_lives a h = by t'.dead refl
    where
      by : (b : Bool) → t'.dead ≡ b → t'.dead ≡ false
      by true e = absurd (h.died.1 e)
      by false e = e

  -- it is the same client
  pub done_same : (o : Reply A) → t.dead ≡ false → HasDone k does leaves ends m t t' before left o → SameClient (acts_of t before) (acts_of t' left)
  done_same o alive h =
      let life : left + length ((h.call alive).steps ++ (h.call alive).last) ≡ before = (h.call alive).life in
      record { of = h.same.0; who = h.same.1; left = omega arith }

  -- otherwise it is dead, and its budget is used up
  pub died_now : t.dead ≡ false → HasDone k does leaves ends m t t' before left Died → IsDeadNow (acts_of t before) (acts_of t' left)
  died_now alive h = record { dead = h.died.0 tt; spent = λ a. h.spent alive tt }

-- roots that are read again
use Rattle.std.proofs.Common.{◌≡◌, ◌≢◌, ℕ, ◌+◌, ◌<◌, ◌≤◌, false, List, Err, inl, inr, refl, sym, ap, ◌∙◌, arith}
use Rattle.std.proofs.lemmas.Bool.{cases_eq}
use Rattle.std.specs.Prelude.{slice_index}
use Rattle.shm_graph.specs.{declared.{memo.Memo.Memo, spot.Spot.TheVariants.Era}, Core.core, Views.own_word}
use Rattle.plans.specs.Words.{word_control}
use Rattle.shm_count.specs.Roots.{root_word}
use Rattle.shm_count.proofs.Waiting.{same_queues}
use Rattle.shm_ref.specs.RootOf.{naming, naming_plan}
use Rattle.shm_table.specs.Staying.{IsSpent}
use Rattle.shm_pool.specs.{declared.reply.Reply.TheVariants.{Died, Done}, Called.HasCalled, Tokens.{Acting, me_of}}
use Rattle.lojarnek.specs.{Blocks.{HasCome, HasLearnt, KeepsRoots}, Roots.{IsAtBlocks, account_root}}
use Rattle.lojarnek.specs.{Standing.{Acts, acts_of}, Tables.SameClient, declared.error.Error.Error}
use Rattle.lojarnek.specs.declared.error.Error.TheVariants as error
use Rattle.lojarnek.proofs.{Comes.{err_came, named_here, same_then, still_at}, Done.{done_lives, done_same}}
use Rattle.lojarnek.proofs.{Ready.dead_ready, Naming.knows_dead}

-- so far: the client is the same one, its memo has the core that it had, and the first k roots are known
pub record IsLearning (t0 : Acting) (before : ℕ) (t : Acting) (left : ℕ) (bs : List ℕ) (k : ℕ) : Type 0 where
  pub same : SameClient (acts_of t0 before) (acts_of t left)
  pub at : IsAtBlocks t
  pub memo : core t.account.memo ≡ core t0.account.memo
  pub known : (j : ℕ) → j < k → account_root t.account j ≡ slice_index bs j

-- one more is known
pub learnt_one : (t0 : Acting) (first : ℕ) (t t' : Acting) (before left : ℕ) (bs bs' : List ℕ) (k b : ℕ) → IsLearning t0 first t before bs k
    → HasCalled word_control naming_plan (naming (me_of t.of t.account) k) t t' before left (Done b) → slice_index bs' k ≡ b → ((j : ℕ) → j ≢ k → slice_index bs' j ≡ slice_index bs j) → IsLearning t0 first t' left bs' (k + 1)
learnt_one t0 first t t' before left bs bs' k b h call here others =
    let same : SameClient (acts_of t before) (acts_of t' left) = done_same (Done b) h.at.alive call.done in
    record {
      same = same_then (acts_of t0 first) (acts_of t before) (acts_of t' left) h.same same;
      at = still_at t t' before left h.at same (done_lives b call.done) call.rests (same_queues t.account.memo t'.account.memo call.done.left_so.memo);
      memo = call.done.left_so.memo ∙ h.memo;
      known = λ j low. kept j ∙ elim (cases_eq j k) [
        | inl e ↦ ap (account_root t.account) e ∙ (sym call.done.left_so.names ∙ (sym here ∙ sym (ap (slice_index bs') e)))
        | inr n ↦ h.known j (omega arith) ∙ sym (others j n)
      ];
    }
  where
    kept : (j : ℕ) → account_root t'.account j ≡ account_root t.account j
    kept j = named_here t t' call.done.same.1 j ∙ ap (λ (m : Memo). root_word t.account.who m j) call.done.left_so.memo

-- all are
pub learnt_all : (t0 : Acting) (first : ℕ) (t : Acting) (left : ℕ) (bs : List ℕ) → IsLearning t0 first t left bs 16 → HasLearnt (acts_of t0 first) (acts_of t left) bs (Done tt)
learnt_all t0 first t left bs h = (h.same, h.at, (λ none alive k low. h.known k low), h.memo)

-- the client died on the way
pub learnt_died : (t0 : Acting) (first : ℕ) (t t' : Acting) (before left : ℕ) (bs : List ℕ) (k : ℕ) → IsLearning t0 first t before bs k
    → HasCalled word_control naming_plan (naming (me_of t.of t.account) k) t t' before left Died → HasLearnt (acts_of t0 first) (acts_of t' left) bs Died
learnt_died t0 first t t' before left bs k h call =
    (same_then (acts_of t0 first) (acts_of t before) (acts_of t' left) h.same (done_same Died h.at.alive call.done), dead_ready t' call.rests (call.done.died.0 tt), call.done.died.0 tt, call.done.spent h.at.alive tt)

-- ---- after an operation that found the eras spent

module _ {T : Type 0} (did : T → Type 0) (why : Error → Acts → Acts → Type 0) (c d e : Acts) (bs : List ℕ) (same : SameClient c d) where
  -- the roots are known again, and its eras are spent still
  pub spent_learnt : (era : ℕ) → IsSpent c.token.account.who era d.token.account.memo → HasLearnt d e bs (Done tt) → (IsSpent c.token.account.who era e.token.account.memo → why (error.EraSpent era) c e) → HasCome did why c e bs (Err (error.EraSpent era))
  spent_learnt era spent h so =
      err_came did why c e bs (error.EraSpent era) (same_then c d e same h.0) h.1 h.2 refl (
        so (
          spent.0,
          (let is : own_word e.token.account.memo.own (Era c.token.account.who c.token.account.who) ≡ own_word d.token.account.memo.own (Era c.token.account.who c.token.account.who) = ap (λ (m : Memo). own_word m.own (Era c.token.account.who c.token.account.who)) h.3 in
              let most : era ≤ own_word d.token.account.memo.own (Era c.token.account.who c.token.account.who) = spent.1 in omega arith),
        ),
        h.1.alive,
      )

  -- it died
  pub spent_died : HasLearnt d e bs Died → HasCome did why c e bs (Err (error.Died false))
  spent_died h =
      record {
        same = same_then c d e same h.0;
        ready = h.1;
        knows = knows_dead e.token bs h.2;
        dead = h.2;
        done = record { dead = h.2; spent = λ alive. h.3 };
      }

-- each root names what it named
pub learnt_roots : (d e : Acts) (bs : List ℕ) → HasLearnt d e bs (Done tt) → KeepsRoots d e
learnt_roots d e bs h k = named_here d.token e.token h.0.who k ∙ ap (λ (m : Memo). root_word d.token.account.who m k) h.3

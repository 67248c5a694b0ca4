-- what the roots of clients name: how it comes to be known, and stays so
use Rattle.std.proofs.Common.{◌≡◌, ◌≢◌, ℕ, ◌<◌, true, false, List, inl, inr, refl, sym, ap, ◌∙◌, subst}
use Rattle.std.proofs.lemmas.Bool.{cases_eq, eq-eqb, true≢false}
use Rattle.std.specs.Prelude.{slice_index}
use Rattle.shm_graph.specs.declared.{memo.Memo.Memo, run.{Account.Account, Start.Start}}
use Rattle.shm_graph.specs.{declared.spot.Spot.TheVariants.{Era, Root}, Core.core, Runs.{Stood, memos_of}}
use Rattle.shm_graph.specs.Views.{own_word}
use Rattle.shm_pool.specs.Tokens.{Acting, IsOut, live}
use Rattle.lojarnek.specs.Roots.{KnowsRoots, account_root}

-- ---- identities that nobody works for

no_era : (c k : ℕ) → Root c k ≢ Era c c
no_era c k is = absurd (cc)

-- an identity that nobody has joined, or that is gone, has no root that names a block
pub out_empty : (s : Start) (e : Account) → Stood s e → IsOut e.memo → (k : ℕ) → account_root e k ≡ 0
out_empty s e x out k =
    let who : e.who < s.geometry.clients = subst (λ (n : ℕ). e.who < n) x.held.accounts x.here.0 in
    let same : memos_of x.accounts e.who ≡ e.memo = ap (λ (a : Account). a.memo) x.here.1 in
    sym (ap (λ (m : Memo). own_word m.own (Root e.who k)) same)
    ∙ elim out [
      | inl new ↦ (x.held.at.fresh e.who who (ap (λ (m : Memo). m.status) same ∙ new)).words (Root e.who k) (eq-eqb e.who e.who refl) (no_era e.who k)
      | inr gone ↦ (x.held.at.gone e.who who (ap (λ (m : Memo). m.status) same ∙ gone)).roots k
    ]

-- nor has it once it has joined
pub joined_empty : (s : Start) (e e' : Account) → Stood s e → IsOut e.memo → e'.who ≡ e.who → core e'.memo ≡ core (live e.memo) → (k : ℕ) → account_root e' k ≡ 0
joined_empty s e e' x out who same k = ap (λ (m : Memo). own_word m.own (Root e'.who k)) same ∙ (ap (λ (c : ℕ). own_word e.memo.own (Root c k)) who ∙ out_empty s e x out k)

-- ---- clients

-- in a pool for tables nothing is asked of them
pub knows_tables : (t : Acting) (bs : List ℕ) → t.of.start.tables ≡ true → KnowsRoots t bs
knows_tables t bs tables none alive k low = absurd (true≢false (sym tables ∙ none))

-- nor of a client that is dead
pub knows_dead : (t : Acting) (bs : List ℕ) → t.dead ≡ true → KnowsRoots t bs
knows_dead t bs dead none alive k low = absurd (true≢false (sym dead ∙ alive))

-- where they name what they named
pub knows_kept : (t t' : Acting) (bs : List ℕ) → t.of.start.tables ≡ false → t.dead ≡ false → KnowsRoots t bs → ((k : ℕ) → account_root t'.account k ≡ account_root t.account k) → KnowsRoots t' bs
knows_kept t t' bs tables alive h same none lives k low = same k ∙ h tables alive k low

-- where one of them names another block
pub knows_set : (t t' : Acting) (bs bs' : List ℕ) (j b : ℕ) → t.of.start.tables ≡ false → t.dead ≡ false → KnowsRoots t bs
    → account_root t'.account j ≡ b → ((k : ℕ) → k ≢ j → account_root t'.account k ≡ account_root t.account k)
    → slice_index bs' j ≡ b → ((k : ℕ) → k ≢ j → slice_index bs' k ≡ slice_index bs k) → KnowsRoots t' bs'
knows_set t t' bs bs' j b tables alive h here else at others none lives k low =
    elim (cases_eq k j) [
      | inl e ↦ ap (account_root t'.account) e ∙ (here ∙ (sym at ∙ sym (ap (slice_index bs') e)))
      | inr n ↦ else k n ∙ (h tables alive k low ∙ sym (others k n))
    ]

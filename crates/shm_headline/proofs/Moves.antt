-- whose memo a turn changes, and into what
use Rattle.std.proofs.Common.{◌≡◌, ◌≢◌, ℕ, ◌<◌, ap, ◌∙◌, length}
use Rattle.shm_graph.specs.declared.{memo.Memo.Memo, run.Move.{Move, TheVariants.{Word, Dies, Begins}}}
use Rattle.shm_graph.specs.{Agents.{died, entered}, Changes.memo_after}
use Rattle.shm_graph.specs.Runs.{IsMove, State, account_died, account_entered, memos_of, moved}
use Rattle.shm_graph.proofs.Runs.{Lists.{at1_here, at1_other, memos_of-after, memos_of-changed}, Going.acts_within}

-- who is stepped, dies or begins
abbrev pub who_of : Move → ℕ
who_of (Word t) = t.me.who
who_of (Dies d) = d
who_of (Begins d k) = d

-- its memo after the turn
abbrev pub memo_by : State → Move → Memo
memo_by s (Word t) = memo_after (memos_of s.accounts t.me.who) t
memo_by s (Dies d) = died (memos_of s.accounts d)
memo_by s (Begins d k) = entered k (memos_of s.accounts d)

within : (s : State) (m : Move) → IsMove s m → who_of m < length s.accounts
within s (Word t) i = acts_within s.accounts t.me.who i.1
within s (Dies d) i = acts_within s.accounts d i
within s (Begins d k) i = i.0

pub memo_here : (s : State) (m : Move) → IsMove s m → memos_of (moved s m).accounts (who_of m) ≡ memo_by s m
memo_here s (Word t) i = ap (λ (r : ℕ → Memo). r t.me.who) (memos_of-after s.accounts t (within s (Word t) i)) ∙ at1_here (memos_of s.accounts) t.me.who _
memo_here s (Dies d) i = ap (λ (r : ℕ → Memo). r d) (memos_of-changed account_died s.accounts d (within s (Dies d) i)) ∙ at1_here (memos_of s.accounts) d _
memo_here s (Begins d k) i = ap (λ (r : ℕ → Memo). r d) (memos_of-changed (account_entered k) s.accounts d (within s (Begins d k) i)) ∙ at1_here (memos_of s.accounts) d _

pub memo_there : (s : State) (m : Move) → IsMove s m → (c : ℕ) → who_of m ≢ c → memos_of (moved s m).accounts c ≡ memos_of s.accounts c
memo_there s (Word t) i c n = ap (λ (r : ℕ → Memo). r c) (memos_of-after s.accounts t (within s (Word t) i)) ∙ at1_other (memos_of s.accounts) t.me.who _ c n
memo_there s (Dies d) i c n = ap (λ (r : ℕ → Memo). r c) (memos_of-changed account_died s.accounts d (within s (Dies d) i)) ∙ at1_other (memos_of s.accounts) d _ c n
memo_there s (Begins d k) i c n = ap (λ (r : ℕ → Memo). r c) (memos_of-changed (account_entered k) s.accounts d (within s (Begins d k) i)) ∙ at1_other (memos_of s.accounts) d _ c n

-- the word that a step gave stands at the end of the memo's call
use Rattle.std.proofs.Common.{◌≡◌, ℕ, List, [], ◌∷◌, ◌++◌, refl, ap, ◌∙◌}
use Rattle.shm_graph.specs.declared.{ask.Ask.{Ask, TheVariants.{Load, Store, Exchange}}, memo.{Seen.Seen, Step.Step}}
use Rattle.shm_graph.specs.{declared.run.Account.Account, Asks.{call_before, pair, seen_of}, Changes.asked_spot}
use Rattle.shm_graph.specs.Runs.{account_after}
use Rattle.shm_graph.proofs.Memos.MemoSteps.{memo_call}
use Rattle.shm_pool.specs.{Rules.head_account, Sites.{last_of, given_last, told_of}}

last_append : (n : ℕ) (tr : List Seen) (s : Seen) → last_of n (tr ++ s ∷ []) ≡ s.word
last_append n [] s = refl
last_append n (x ∷ tr) s = last_append x.word tr s

pub given_after : (e : Account) (t : Step) (now : List Account) → head_account now ≡ account_after e t → given_last now ≡ t.seen
given_after e t now is = ap (λ (r : Account). last_of 0 r.memo.call) is ∙ ap (last_of 0) (memo_call e.memo t (asked_spot e.memo t)) ∙ last_append 0 (call_before t.fresh e.memo.call) (pair t.ask t.seen)

pub told_seen : (a : Ask) (n : ℕ) → seen_of a (told_of a n) ≡ seen_of a n
told_seen (Load at) n = refl
told_seen (Store at value) n = refl
told_seen (Exchange at from to) n = refl

-- what is shown of the turns of a pool, after one more
use Rattle.std.proofs.Common.{◌≡◌, ℕ, true, false, Bool, cond, List, [], ◌∷◌, ◌++◌, append-nil, refl, ap, ◌∙◌}
use Rattle.shm_graph.specs.declared.{memo.Step.Step, run.Move.{Move, TheVariants.{Word, Dies, Begins}}}
use Rattle.shm_graph.specs.Agents.{acts}
use Rattle.shm_plain.specs.{Pools.{Pool, after_fall, memo_of, readied, turned}, Tracks.kind_next}
use Rattle.shm_watch.specs.declared.shown.Shown.{TheVariants.Death}
use Rattle.shm_watch.specs.Turns.{shown_of, word_shown}

shown_append : (ts us : List Move) → shown_of (ts ++ us) ≡ shown_of ts ++ shown_of us
shown_append [] us = refl
shown_append (Word t ∷ ts) us = ap (λ xs. word_shown t ∷ xs) (shown_append ts us)
shown_append (Dies c ∷ ts) us = ap (λ xs. Death c ∷ xs) (shown_append ts us)
shown_append (Begins c kind ∷ ts) us = shown_append ts us

-- the beginning of an agent isn't shown
shown_readied : (p : Pool) (c : ℕ) → shown_of (readied p c).turns ≡ shown_of p.turns
shown_readied p c = go (acts (memo_of p c))
  where
    go : (b : Bool) → shown_of (cond b p.turns (p.turns ++ Begins c (kind_next (memo_of p c)) ∷ [])) ≡ shown_of p.turns
    go true = refl
    go false = shown_append p.turns (Begins c (kind_next (memo_of p c)) ∷ []) ∙ append-nil (shown_of p.turns)

-- a word step is
pub shown_turned : (p : Pool) (c : ℕ) (t : Step) → shown_of (turned (readied p c) t).turns ≡ shown_of p.turns ++ word_shown t ∷ []
shown_turned p c t = shown_append (readied p c).turns (Word t ∷ []) ∙ ap (λ xs. xs ++ word_shown t ∷ []) (shown_readied p c)

-- and so is the death of an agent that acts
pub shown_fallen : (p : Pool) (c : ℕ) → acts (memo_of p c) ≡ true → shown_of (after_fall p c).turns ≡ shown_of p.turns ++ Death c ∷ []
shown_fallen p c e = ap (λ (b : Bool). shown_of (cond b (p.turns ++ Dies c ∷ []) p.turns)) e ∙ shown_append p.turns (Dies c ∷ [])

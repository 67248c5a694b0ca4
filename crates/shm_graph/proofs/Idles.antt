-- what keeps an identity between two calls
use Rattle.std.proofs.Common.{◌≡◌, ℕ, ap, sym, ◌∙◌}
use Rattle.shm_graph.specs.{declared.{memo.Memo.Memo, spot.Spot.TheVariants.Hold}, Core.core, Idle.{IsIdle, hold_word}}
use Rattle.shm_graph.specs.Views.{own_word}

-- of the memo m they are between two calls if of r
pub idle_core : (c : ℕ) (m r : Memo) → core r ≡ core m → IsIdle c m → IsIdle c r
idle_core c m r e h =
    record {
      live = ap (λ (x : Memo). x.status) e ∙ h.live;
      op = ap (λ (x : Memo). x.op) e ∙ h.op;
      making = ap (λ (x : Memo). x.making) e ∙ h.making;
      hold = ap (λ (x : Memo). own_word x.own (Hold c)) e ∙ (h.hold ∙ ap (λ (x : Memo). hold_word x.latch) (sym e));
    }

-- the core but for own words, of which the hold word stays
pub idle_own : (c : ℕ) (m r s : Memo) → core r ≡ core s → s.status ≡ m.status → s.op ≡ m.op → s.making ≡ m.making → s.latch ≡ m.latch → own_word r.own (Hold c) ≡ own_word m.own (Hold c) → IsIdle c m → IsIdle c r
idle_own c m r s e live op making latch own h =
    record {
      live = ap (λ (x : Memo). x.status) e ∙ (live ∙ h.live);
      op = ap (λ (x : Memo). x.op) e ∙ (op ∙ h.op);
      making = ap (λ (x : Memo). x.making) e ∙ (making ∙ h.making);
      hold = own ∙ (h.hold ∙ ap hold_word (sym (ap (λ (x : Memo). x.latch) e ∙ latch)));
    }

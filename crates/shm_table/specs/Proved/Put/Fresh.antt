-- a block that the call made is no value block of the own table: one root names it, and nothing else does
use Rattle.std.proofs.Common.{◌≡◌, ℕ, ◌%◌, ◌<◌, refl, sym, ap, ◌∙◌, subst, arith, true, eqb, List, [], ◌∷◌, Option, Some, None, inl, inr}
use Rattle.std.proofs.lemmas.{Bool.{cases_Bool, cases_eq, cond-false, cond-true}, List.Elements.All-contains}
use Rattle.std.specs.List.{Contains}
use Rattle.shm_words.specs.Headers.{header_of}
use Rattle.shm_graph.specs.declared.{ask.Me.Me, memo.Memo.Memo, spot.Spot.{Spot, TheVariants.{Body, Head, Home, Root}}}
use Rattle.shm_graph.specs.declared.table.{Entry.Entry, Part.{Part, TheVariants.{Loose, Table}}}
use Rattle.shm_graph.specs.{Held.{HeldAt, MadeAt, PartTie}, Tables.{Contents, IsChain, IsEntry, contents_of, find}}
use Rattle.shm_graph.specs.Views.{targets, view}
use Rattle.kind_laws.proofs.References.{two_names}
use Rattle.kind_parts.specs.Reparting.{map_in}
use Rattle.plans.specs.Parts.{IsHeld}

abbrev value_in : Option (ℕ × ℕ) → ℕ
value_in None = 0
value_in (Some x) = x.1

-- the entry of a chain in which a key was found
entry_found : (z : Contents) (c b at key n v : ℕ) (es : List Entry) → IsChain z c b at es → find key es ≡ Some (n, v) → (e : Entry) × IsEntry z c b e × (e.value ≡ v)
entry_found z c b at key n v [] chain f = absurd (cc)
entry_found z c b at key n v (e ∷ es) chain f =
    elim (cases_Bool (eqb e.key key)) [
      | inl y ↦ (e, chain.1, ap value_in (sym (cond-true (eqb e.key key) (Some (e.number, e.value)) (find key es) y) ∙ f))
      | inr m ↦ entry_found z c b (z.refs e.block 0) key n v es chain.2 (sym (cond-false (eqb e.key key) (Some (e.number, e.value)) (find key es) m) ∙ f)
    ]

module _ (me : Me) (w : Spot → ℕ) (rs : ℕ → Memo) (h : HeldAt me.geometry w (view rs)) (l : me.who < me.geometry.clients) (b : ℕ) (made : Contains (rs me.who).made b) where
  abbrev t : Spot → ℕ
  t = targets me.geometry w (view rs)

  -- the one reference to it
  sole : MadeAt (λ i. header_of (w (Head i))) (λ k. t (Root me.who k)) b
  sole = All-contains (MadeAt (λ i. header_of (w (Head i))) (λ k. t (Root me.who k))) (rs me.who).made b (h.made me.who l) made

  -- no entry names it
  no_entry : (e : Entry) (bucket : ℕ) → IsEntry (contents_of me.geometry.wide w t) me.who bucket e → e.value ≡ b → ⊥
  no_entry e bucket is same =
      let live : (header_of (w (Head b))).live ≡ true = subst (λ (x : ℕ). (header_of (w (Head x))).live ≡ true) same is.holds.live in
      let two = two_names me.geometry w (view rs) h b (Body e.block 1) (Root me.who sole.1.0) (is.value ∙ same) sole.1.1 refl live in
      let one = sole.0 in
      omega arith

  not_in : (y : Part) → PartTie (contents_of me.geometry.wide w t) me.who (t (Home me.who)) y → (key n : ℕ) → map_in y key ≡ Some (n, b) → ⊥
  not_in Loose tie key n f = cc
  not_in (Table chains) tie key n f =
      elim (cases_eq (t (Home me.who)) 0) [
        | inl e ↦ (let k : find key [] ≡ Some (n, b) = sym (ap (find key) (tie.none e (key % 16))) ∙ f in cc)
        | inr some ↦ (let q = entry_found (contents_of me.geometry.wide w t) me.who (key % 16) ((contents_of me.geometry.wide w t).refs (t (Home me.who)) (key % 16)) key n b _ (tie.chain some (key % 16) (omega arith)) f in no_entry q.0 (key % 16) q.1 q.2)
      ]

-- no key has it
pub not_mapped : (me : Me) (r : Memo) (b : ℕ) → IsHeld me r → me.who < me.geometry.clients → Contains r.made b → (key n : ℕ) → map_in r.part key ≡ Some (n, b) → ⊥
not_mapped me r b (w, rs, h, same) l made key n f =
    not_in me w rs h l b (subst (λ (x : Memo). Contains x.made b) (sym same) made) (rs me.who).part (h.part me.who l) key n (subst (λ (x : Memo). map_in x.part key ≡ Some (n, b)) (sym same) f)

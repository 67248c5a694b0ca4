-- partitions, value blocks and made blocks where a step changes what they don't read
use Rattle.std.proofs.Common.{◌≡◌, ℕ, ◌<◌, ◌≤◌, sym, ap, ◌∙◌, arith, true, List, [], ◌∷◌, subst, get_or}
use Rattle.shm_words.specs.Tags.{tag_refs, tag_plain, tag_author}
use Rattle.shm_graph.specs.declared.table.{Part.{Part, TheVariants.{Loose, Table}}, Entry.Entry}
use Rattle.shm_graph.specs.{Tables.{Contents, HasShape, IsEntry, IsChain, IsPartition}, Held.PartTie}

-- what stays of the blocks that are named: they stay live with their tags and plain words, and those of c keep their references
pub record PartKept (x y : Contents) (named : ℕ → Type 0) (c : ℕ) : Type 0 where
  pub format : y.wide ≡ x.wide
  pub live : (b : ℕ) → named b → (x.head b).live ≡ true → (y.head b).live ≡ true
  pub tag : (b : ℕ) → named b → (x.head b).live ≡ true → y.tag b ≡ x.tag b
  pub refs : (b i : ℕ) → named b → (x.head b).live ≡ true → tag_author x.wide (x.tag b) ≡ c → i < tag_refs x.wide (x.tag b) → y.refs b i ≡ x.refs b i
  pub body : (b i : ℕ) → named b → (x.head b).live ≡ true → tag_refs x.wide (x.tag b) ≤ i → y.body b i ≡ x.body b i

module _ (x y : Contents) (named : ℕ → Type 0) (c : ℕ) (k : PartKept x y named c) where
  pub shape_kept : (refs plain b : ℕ) → named b → HasShape x refs plain b → HasShape y refs plain b
  shape_kept refs plain b n h =
      record {
        live = k.live b n h.live;
        names = ap (λ z. tag_refs z (y.tag b)) k.format ∙ ap (tag_refs x.wide) (k.tag b n h.live) ∙ h.names;
        words = ap (λ z. tag_plain z (y.tag b)) k.format ∙ ap (tag_plain x.wide) (k.tag b n h.live) ∙ h.words;
      }

  ref_kept : (n b i : ℕ) → named b → HasShape x n 1 b → tag_author x.wide (x.tag b) ≡ c → i < n → y.refs b i ≡ x.refs b i
  ref_kept n b i m h a l = k.refs b i m h.live a (let e = h.names in omega arith)

  entry_kept : ((d i : ℕ) → named (x.refs d i)) → (bucket : ℕ) (e : Entry) → named e.block → IsEntry x c bucket e → IsEntry y c bucket e
  entry_kept all bucket e n h =
      record {
        shape = shape_kept 2 1 e.block n h.shape;
        author = ap (λ z. tag_author z (y.tag e.block)) k.format ∙ ap (tag_author x.wide) (k.tag e.block n h.shape.live) ∙ h.author;
        key = k.body e.block 2 n h.shape.live (let r = h.shape.names in omega arith) ∙ h.key;
        small = h.small;
        placed = h.placed;
        value = ref_kept 2 e.block 1 n h.shape h.author (omega arith) ∙ h.value;
        holds = shape_kept 0 1 e.value value h.holds;
        number = k.body e.value 0 value h.holds.live (omega arith) ∙ h.number;
      }
    where
      value : named e.value
      value = subst named h.value (all e.block 1)

  chain_kept : ((d i : ℕ) → named (x.refs d i)) → (bucket at : ℕ) (es : List Entry) → named at → IsChain x c bucket at es → IsChain y c bucket at es
  chain_kept all bucket at [] n h = h
  chain_kept all bucket at (e ∷ es) n h =
      let m : named e.block = subst named h.0 n in
      (h.0, entry_kept all bucket e m h.1, subst (λ z. IsChain y c bucket z es) (sym (ref_kept 2 e.block 0 m h.1.shape h.1.author (omega arith))) (chain_kept all bucket (x.refs e.block 0) es (all e.block 0) h.2))

  partition_kept : ((d i : ℕ) → named (x.refs d i)) → (home : ℕ) (chains : ℕ → List Entry) → named home → IsPartition x c home chains → IsPartition y c home chains
  partition_kept all home chains n h =
      record {
        none = h.none;
        shape = λ z. shape_kept 16 0 home n (h.shape z);
        author = λ z. ap (λ z. tag_author z (y.tag home)) k.format ∙ ap (tag_author x.wide) (k.tag home n (h.shape z).live) ∙ h.author z;
        chain = λ z b l. subst (λ a. IsChain y c b a (chains b)) (sym (k.refs home b n (h.shape z).live (h.author z) (let r = (h.shape z).names in omega arith))) (chain_kept all b (x.refs home b) (chains b) (all home b) (h.chain z b l));
        distinct = h.distinct;
        beyond = h.beyond;
      }

  -- the part stays
  pub part_kept : ((d i : ℕ) → named (x.refs d i)) → (home : ℕ) (part : Part) → named home → PartTie x c home part → PartTie y c home part
  part_kept all home Loose n h = tt
  part_kept all home (Table chains) n h = partition_kept all home (λ b. get_or chains b []) n h

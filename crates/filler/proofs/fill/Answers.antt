-- The stream is checked first, so that a refused call leaves the truth table; then it is read once more and fills it. Every record is cleared.
-- Assumes nothing.
use Rattle.std.proofs.Common.{◌≡◌, ℕ, true, false, List, length, Option, Some, None, is_some, not, ◌/◌, ◌≤◌, replicate, sym, refl, ap, ◌∙◌, inl, inr, arith}
use Rattle.theory_reading.specs.Limits.{truth_table_most, word_limit}
use Rattle.theory_reading.specs.LimitLaws.{truth-count, no-truth-count}
use Rattle.theory_reading.specs.Causes as C
use Rattle.reader.specs.ReadOn.{read-begun}
use Rattle.theory_lists.specs.Powers.{shifted}
use Rattle.checker.specs.CheckCorrect.{cleared-after, cleared-long, all-reads, reads-clean}
use Rattle.filler.specs.FillCorrect.{fill-options, fill-table, fill-length, fill-correct}
use Rattle.std.proofs.lemmas.Bool.{false≢true}
use Rattle.elements.specs.declared.Fault.{Fault}
use Rattle.node_records.specs.Records.{no_record}
use Rattle.node_records.specs.declared.NodeRecord.{NodeRecord}
use Rattle.record_tables.specs.Entries.{clear_to}
use Rattle.reader.specs.Tokens.{faulty_in}
use Rattle.filler.proofs.fill.Goals.{then-is_none, else-is_none, then-n-lt-TRUTH_TABLE_LEAST-via-then-n-lt-TRUTH_TABLE_LEAST, then-n-lt-TRUTH_TABLE_LEAST-via-else-n-lt-TRUTH_TABLE_LEAST+then-n-gt-TRUTH_TABLE_MOST}
use Rattle.filler.proofs.fill.Goals as goal

-- all records cleared
abbrev cleared : List NodeRecord → List NodeRecord
cleared t = clear_to no_record t (length t)

not-faulty : (o : Option Fault) → is_some o ≡ false → faulty_in o ≡ false
not-faulty None e = refl
not-faulty (Some f) e = absurd (false≢true (sym e))

faulty-some : (o : Option Fault) → is_some o ≡ true → faulty_in o ≡ true
faulty-some None e = absurd (false≢true e)
faulty-some (Some f) e = refl

pub returns-then-n-lt-TRUTH_TABLE_LEAST : goal.returns-then-n-lt-TRUTH_TABLE_LEAST
returns-then-n-lt-TRUTH_TABLE_LEAST c =
    let a = c.args in
    fill-options a.n a.s.now a.v.now a.t.now _ (no-truth-count a.n (elim c.then-n-lt-TRUTH_TABLE_LEAST.branch [
      | then-n-lt-TRUTH_TABLE_LEAST-via-then-n-lt-TRUTH_TABLE_LEAST w ↦ inl w.if-n-lt-TRUTH_TABLE_LEAST.true
      | then-n-lt-TRUTH_TABLE_LEAST-via-else-n-lt-TRUTH_TABLE_LEAST+then-n-gt-TRUTH_TABLE_MOST w ↦ inr w.if-n-gt-TRUTH_TABLE_MOST.true
    ])) (ap C.refused c.early.ensures)

pub returns-then-t-lt-TABLE_LIMIT : goal.returns-then-t-lt-TABLE_LIMIT
returns-then-t-lt-TABLE_LIMIT c =
    let a = c.args in
    fill-table a.n a.s.now a.v.now a.t.now _
    (truth-count a.n (omega (arith, c.if-n-lt-TRUTH_TABLE_LEAST.false)) (omega (arith, c.if-n-gt-TRUTH_TABLE_MOST.false)))
    c.if-t-lt-TABLE_LIMIT.true (ap C.refused c.early-then-t-lt-TABLE_LIMIT.ensures)

pub returns-then-v-n : goal.returns-then-v-n
returns-then-v-n c =
    let a = c.args in
    let least = c.if-n-lt-TRUTH_TABLE_LEAST.false in
    let most = c.if-n-gt-TRUTH_TABLE_MOST.false in
    let room = c.if-t-lt-TABLE_LIMIT.false in
    fill-length a.n a.s.now a.v.now a.t.now _ (truth-count a.n (omega (arith, least)) (omega (arith, most))) (omega (arith, room))
    (λ e. c.if-v-n.true (e ∙ ap (λ (k : ℕ). k / 8) (sym (shifted a.n (omega (arith, most)))))) (ap C.refused c.early-then-v-n.ensures)

pub fill_words-requires : goal.fill_words-requires
fill_words-requires c =
    let a = c.args in
    let n = a.n in let s = a.s.now in let t = a.t.now in
    let room = c.if-t-lt-TABLE_LIMIT.false in
    let few : n ≤ truth_table_most = omega (arith, c.if-n-gt-TRUTH_TABLE_MOST.false) in
    let reached = read-begun n s (omega (arith, few)) word_limit (omega arith) c.first_cursor.result t (omega (arith, room))
    c.first_cursor.ensures _ _ c.read_on-r.ensures in (
      omega (arith, c.if-n-lt-TRUTH_TABLE_LEAST.false),
      (
        few,
        (
          omega (arith, c.read_on-r.auto.t, room),
          (
            reads-clean n s _ _ (all-reads n s _ _ (omega (arith, few)) reached) (not-faulty c.read_on-r.result.fault (c.is_none.ensures ∙ ap not c.if-is_none.true)),
            c.fill.ensures.after (λ y e. e) ∙ ap (λ (k : ℕ). replicate k 0) (c.if-v-n.false ∙ ap (λ (k : ℕ). k / 8) (shifted n (omega (arith, few)))),
          ),
        ),
      ),
    )

pub returns : goal.returns
returns c =
    let a = c.args in
    let n = a.n in let s = a.s.now in let v = a.v.now in let t = a.t.now in
    let least = c.if-n-lt-TRUTH_TABLE_LEAST.false in
    let room = c.if-t-lt-TABLE_LIMIT.false in
    let few : n ≤ truth_table_most = omega (arith, c.if-n-gt-TRUTH_TABLE_MOST.false) in
    let reached = read-begun n s (omega (arith, few)) word_limit (omega arith) c.first_cursor.result t (omega (arith, room))
    c.first_cursor.ensures _ _ c.read_on-r.ensures in
    let same = c.if-v-n.false ∙ ap (λ (k : ℕ). k / 8) (shifted n (omega (arith, few))) in
    elim c.if-is_none.branch [
      | then-is_none w ↦
          fill-correct n s v t _ _ _ _ _ (truth-count n (omega (arith, least)) few) (omega (arith, room)) same
          (all-reads n s _ _ (omega (arith, few)) reached) c.filled_at.ensures
          (cleared-long _ _ w.fill_words.ensures.1 t c.read_on-r.auto.t _ (c.clear_all.ensures ∙ ap cleared (w.t-is)))
          (w.v-is ∙ w.fill_words.ensures.0 ∙ rw (not-faulty c.read_on-r.result.fault (c.is_none.ensures ∙ ap not w.if-is_none.true)) refl)
      | else-is_none w ↦
          fill-correct n s v t _ _ _ _ _ (truth-count n (omega (arith, least)) few) (omega (arith, room)) same
          (all-reads n s _ _ (omega (arith, few)) reached) c.filled_at.ensures
          (cleared-after _ _ _ _ _ reached t c.read_on-r.auto.t _ (c.clear_all.ensures ∙ ap cleared (w.t-is)))
          (w.v-is ∙ rw (faulty-some c.read_on-r.result.fault (c.is_none.ensures ∙ ap not w.if-is_none.false)) refl)
    ]

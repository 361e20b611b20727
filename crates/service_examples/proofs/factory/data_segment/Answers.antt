use Rattle.std.proofs.Common.{rules, ◌+◌, ◌<◌, ◌^◌, ap, subst}
use Rattle.std.specs.Int.{◌∣◌}
use Rattle.service_examples.proofs.factory.data_segment.Goals as goal

-- blocks that lie end to end are a segment
pub returns-in-Some-size_of_row : goal.returns-in-Some-size_of_row
returns-in-Some-size_of_row c =
    let holds = rw c.message_type_details-types.ensures at c.in-Some-sample_layout.ensures.holds in
    let room = rw c.message_type_details-types.ensures at c.in-Some-sample_layout.ensures.some in
    let alignment = ap (λ r. r.alignment) room in
    let size = rw c.size.ensures.value at c.in-Some-size_of_row.ensures.0 in (
      search rules,
      record {
        blocks_are = c.in-Some.ensures;
        block_size_is = ap (λ r. r.size) room;
        size_is = size;
        size_fits = c.in-Some-size_of_row.ensures.1;
        alignment_is = alignment;
        each_holds = λ start divides ends i below. holds.in_rows start c.in-Some.blocks
            (subst (λ a. a ∣ start) alignment divides)
            (subst (λ k. start + k < 2 ^ 64) size ends) i below;
        apart = holds.apart;
      },
    )

use Rattle.config_report.proofs.text.samples.Goals as goal

pub returns : goal.returns
returns c = rw c.new.ensures at c.required_amount_of_samples_per_data_segment.ensures

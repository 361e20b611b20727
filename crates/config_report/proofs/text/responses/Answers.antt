use Rattle.config_report.proofs.text.responses.Goals as goal

pub returns : goal.returns
returns c = rw c.new.ensures at c.required_amount_of_chunks_per_server_data_segment.ensures

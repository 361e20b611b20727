use Rattle.config_report.proofs.text.requests.Goals as goal

pub returns : goal.returns
returns c = rw c.new.ensures at c.required_amount_of_chunks_per_client_data_segment.ensures

-- Static configurations of request-response services.
use Rattle.std.specs.Prelude.{ℕ, ◌+◌, ◌*◌, List, [], ◌∷◌, ◌++◌, replicate}
use Rattle.iox2_config.specs.declared.config.defaults.RequestResonse.{RequestResonse}
use Rattle.iox2_config.specs.DefaultTypes.{default_details}
use Rattle.iox2_static.specs.declared.static_config.request_response.StaticConfig.{StaticConfig}

-- what is made of the defaults of a configuration
abbrev pub request_response_of : RequestResonse → StaticConfig
request_response_of defaults = record {
  enable_safe_overflow_for_requests = defaults.enable_safe_overflow_for_requests;
  enable_safe_overflow_for_responses = defaults.enable_safe_overflow_for_responses;
  enable_fire_and_forget_requests = defaults.enable_fire_and_forget_requests;
  max_active_requests_per_client = defaults.max_active_requests_per_client;
  max_loaned_requests = defaults.max_loaned_requests;
  max_response_buffer_size = defaults.max_response_buffer_size;
  max_servers = defaults.max_servers;
  max_clients = defaults.max_clients;
  max_nodes = defaults.max_nodes;
  max_borrowed_responses_per_pending_response =
      defaults.max_borrowed_responses_per_pending_response;
  request_message_type_details = default_details;
  response_message_type_details = default_details;
}

-- how many requests of one client each server can hold, then how many the client has loaned
abbrev pub client_limits : StaticConfig → ℕ → List ℕ
client_limits s loans = replicate s.max_servers (2 * s.max_active_requests_per_client) ++ loans ∷ []

-- how many responses of one server can be held for each request that a client has sent or given up
abbrev pub server_limits : StaticConfig → ℕ → List ℕ
server_limits s loans =
    replicate (s.max_clients * 2 * s.max_active_requests_per_client)
    (s.max_response_buffer_size + s.max_borrowed_responses_per_pending_response + loans)

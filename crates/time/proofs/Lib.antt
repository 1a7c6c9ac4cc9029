mod PeerLaws
